pub mod Ascents
pub mod Additions
pub mod Padding
pub mod Searches
pub mod Shifts
