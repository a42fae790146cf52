mod Unequal
