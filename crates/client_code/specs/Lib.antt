pub mod Views
pub mod Operands
pub mod Files
pub mod Parts
pub mod Clients
