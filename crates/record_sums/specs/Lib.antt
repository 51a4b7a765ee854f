pub mod Bursts
pub mod Chains
pub mod Crc32c
pub mod Records
