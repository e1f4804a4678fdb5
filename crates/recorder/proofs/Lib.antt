mod Said
mod Made
mod Lines
