pub mod Sheets
pub mod Tags
pub mod Picks
pub mod Trees
pub mod Laws
pub mod TreeLaws
pub mod Promises
