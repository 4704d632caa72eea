mod Attempts
mod ParamValues
mod Streams
pub mod Orders
pub mod RandomConfigs
