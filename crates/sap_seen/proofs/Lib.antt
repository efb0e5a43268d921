pub mod Nodes
pub mod SeenSo
pub mod Found
pub mod There
