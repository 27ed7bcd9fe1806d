pub mod Codes
pub mod ThumbRows
