pub mod SameLimits
