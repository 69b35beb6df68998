mod Childless
