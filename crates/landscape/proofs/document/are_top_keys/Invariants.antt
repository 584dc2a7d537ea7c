use Rattle.std.proofs.Common.{◌≡◌, string_bytes}
use Rattle.std.specs.BTreeMap.{keys}
use Rattle.std.specs.List.{list_all}
use Rattle.landscape.specs.Document.{is_top_key}
use Rattle.landscape.proofs.document.are_top_keys.Given as goal

-- the keys that are left decide
abbrev pub invariant-loop-key : goal.invariant-loop-key
invariant-loop-key l = list_all (λ k. is_top_key (string_bytes k)) l.key-iterator ≡ list_all (λ k. is_top_key (string_bytes k)) (keys l.top)
