mod BookLemmas
mod ShippedLemmas
