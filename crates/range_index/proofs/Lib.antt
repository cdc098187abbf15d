mod Finding
mod Trees
