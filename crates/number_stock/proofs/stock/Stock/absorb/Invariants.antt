use Rattle.number_stock.proofs.stock.Stock.absorb.Given as goal

abbrev pub ghosts-glue : goal.ghosts-glue
ghosts-glue a = record { draws = a.self.now.table.shared.key.0 }
