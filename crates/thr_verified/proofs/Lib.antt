pub mod CalledLegal
