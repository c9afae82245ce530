pub mod ShippedBook
