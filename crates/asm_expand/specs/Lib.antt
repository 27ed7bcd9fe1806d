-- What the clauses of the crate cite.
pub mod Calling
pub mod Declaring
pub mod Defining
pub mod FirstLines
pub mod Leading
pub mod LineCursors
pub mod Plain
pub mod Saying
pub mod Turning
pub mod Unwinding
