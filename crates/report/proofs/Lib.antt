mod Paged
