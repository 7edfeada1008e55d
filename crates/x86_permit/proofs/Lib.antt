mod Bits
mod ReadBits
mod Permits
