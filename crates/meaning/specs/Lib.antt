-- What a reader must believe of graphs, grammars, tables, steps, lengths and witnesses.
pub mod Net
pub mod Trees
pub mod Table
pub mod Steps
pub mod Passes
pub mod Final
pub mod Lengths
pub mod Rows
pub mod Computed
pub mod Records
