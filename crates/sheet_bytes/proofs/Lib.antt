pub mod Appending
pub mod FourBytes
pub mod FortyBytes
pub mod SheetBytes
pub mod Goods
pub mod Trips
