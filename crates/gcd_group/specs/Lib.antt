pub mod GroupsView
pub mod CountsAgree
pub mod Inside
