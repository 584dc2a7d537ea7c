mod Batches
