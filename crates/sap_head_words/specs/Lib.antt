pub mod HeadWords
pub mod HasHead
pub mod NodeStands
pub mod Examples
pub mod code
