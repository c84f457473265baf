pub mod Dozen
