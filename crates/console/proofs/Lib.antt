mod Counting
mod Exactly
mod Lining
mod Parting
mod Sorting
