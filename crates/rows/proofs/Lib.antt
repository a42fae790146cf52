mod Listing
mod Euclid
mod Passing
mod Whole
mod Refusals
