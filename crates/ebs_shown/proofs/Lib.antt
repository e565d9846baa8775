mod Floats
