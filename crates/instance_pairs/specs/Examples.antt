pub mod InstanceFiles
pub mod PairOrders
