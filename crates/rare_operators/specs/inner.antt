pub mod DeclaredHead
