use Rattle.number_stock.proofs.stock.Stock.cut_off.Given as goal

abbrev pub ghosts-cut : goal.ghosts-cut
ghosts-cut a = record { draws = a.draws }
