pub mod Boards
pub mod Devices
pub mod Steps
pub mod Silent
pub mod Laws
