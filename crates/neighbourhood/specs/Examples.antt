pub mod TwoParameters
