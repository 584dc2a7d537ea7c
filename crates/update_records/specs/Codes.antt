-- How stored intervals are told apart, which a struct that shows a ledger cites in its `coded`.
use Rattle.std.specs.Prelude.{ℕ, Bool, refl}
use Rattle.std.specs.Coded.{Coded, code_by, coded×, coded_ℕ, coded_bool, coded_list}
use Rattle.std.specs.FinMap as map
use Rattle.update_records.specs.Ledger.{Levels}
use Rattle.update_records.specs.RecordRows.{Level}

abbrev pub level_code : Coded Level
level_code =
    code_by (ℕ × (ℕ × (ℕ × Bool))) (coded× coded_ℕ (coded× coded_ℕ (coded× coded_ℕ coded_bool)))
    (λ l. (l.from, (l.to, (l.level, l.buffered))))
    (λ p. record { from = p.0; to = p.1.0; level = p.1.1.0; buffered = p.1.1.1 }) (λ _. refl)

abbrev pub levels_code : Coded Levels
levels_code = map.code (coded× (coded_list coded_ℕ) (coded_list coded_ℕ)) level_code
