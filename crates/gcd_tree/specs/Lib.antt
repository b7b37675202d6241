pub mod TreeView
pub mod IsTree
pub mod Inside
