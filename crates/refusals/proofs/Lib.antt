mod Judged
mod Lesser
