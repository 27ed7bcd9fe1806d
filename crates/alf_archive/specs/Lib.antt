pub mod Archives
pub mod Numbered
pub mod Defining
pub mod Spelling
pub mod Grammar
