mod of_moves
