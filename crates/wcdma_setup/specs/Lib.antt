pub mod Numbers
pub mod Primes
pub mod Post
