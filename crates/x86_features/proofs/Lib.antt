mod InOrder
mod Operands
mod Sets
mod Needed
mod Computed
