pub mod Tables
pub mod Rooms
