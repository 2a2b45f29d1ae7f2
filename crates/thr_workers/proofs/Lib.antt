mod Crossing
mod Laws
