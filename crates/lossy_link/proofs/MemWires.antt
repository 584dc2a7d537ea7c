-- What a wire in memory does with a packet.
use Rattle.std.proofs.Common.{◌≡◌, ℕ, zero, suc, ◌-◌, ◌⊎◌, nat_eq, nat_lt, List, [], ◌∷◌, ◌++◌, length, Option, Some, None, refl, sym, ◌∙◌, subst, inl, inr, arith}
use Rattle.std.specs.Prelude.{Contains, IfSome, slice_get, option_map}
use Rattle.std.specs.List.{AllByRecursion}
use Rattle.std.proofs.lemmas.Bool.{cond_both}
use Rattle.std.proofs.lemmas.List.Elements.{All-from_recursion, Contains-push_cases}
use Rattle.std.proofs.lemmas.Option.{none-some, same_Some}
use Rattle.io_edge.specs.declared.fate.Fate.{Fate}
use Rattle.io_edge.specs.declared.fate.Fate.TheVariants.{Pass, LosePacket, LoseAck, Twice, Old}
use Rattle.lossy_link.specs.declared.packet.Ack.{Ack}
use Rattle.lossy_link.specs.declared.packet.Packet.{Packet}
use Rattle.lossy_link.specs.Packets.{Place, ack_of, answers, taken}
use Rattle.lossy_link.specs.Wiring.{IsSent}
use Rattle.lossy_link.specs.Memory.{MemWireState, may_answer, may_bring, next_fate, noted, numbered, just, coming, answer_in, answer_of, played, IsCutShort}

noted-cases : (wire : MemWireState) (packet p : Packet) → Contains (noted wire packet) p → Contains wire.sent p ⊎ (p ≡ packet)
noted-cases wire packet p =
    cond_both (nat_lt wire.turns (length wire.plan)) (wire.sent ++ packet ∷ []) wire.sent
    (λ (ps : List Packet). Contains ps p → Contains wire.sent p ⊎ (p ≡ packet))
    (λ _ h. turned (Contains-push_cases wire.sent packet p h))
    (λ _ h. inl h)
  where
    turned : Contains wire.sent p ⊎ (packet ≡ p) → Contains wire.sent p ⊎ (p ≡ packet)
    turned (inl c) = inl c
    turned (inr e) = inr (sym e)

got-contained : (ps : List Packet) (i : ℕ) (p : Packet) → slice_get ps i ≡ Some p → Contains ps p
got-contained [] i p h = absurd (none-some p h)
got-contained (q ∷ ps) zero p h = (0, omega arith, same_Some q p h)
got-contained (q ∷ ps) (suc i) p h = let c = got-contained ps i p h in (suc c.0, (let below = c.1 in omega arith), c.2)

numbered-contained : (ps : List Packet) (number : ℕ) (p : Packet) → numbered ps number ≡ Some p → Contains ps p
numbered-contained ps number p =
    cond_both (nat_eq number 0) None (slice_get ps (number - 1)) (λ (o : Option Packet). o ≡ Some p → Contains ps p) (λ _ h. absurd (none-some p h))
    (λ _ h. got-contained ps (number - 1) p h)

module _ (packet : Packet) (old : MemWireState) where
  just-known : (o : Option Packet) → ((p : Packet) → o ≡ Some p → Contains (noted old packet) p)
      → AllByRecursion (λ p. Contains old.sent p ⊎ (p ≡ packet)) (just o)
  just-known None h = tt
  just-known (Some p) h = (noted-cases old packet p (h p refl), tt)

  coming-known : (fate : Fate) → AllByRecursion (λ p. Contains old.sent p ⊎ (p ≡ packet)) (coming fate (noted old packet) packet)
  coming-known Pass = (inr refl, tt)
  coming-known LosePacket = tt
  coming-known LoseAck = (inr refl, tt)
  coming-known Twice = (inr refl, (inr refl, tt))
  coming-known (Old number) = just-known (numbered (noted old packet) number) (numbered-contained (noted old packet) number)

  just-answered : (o : Option Packet) (r : Place) → IfSome (option_map (λ p. ack_of (taken r p)) o) (λ a. ⊥ ⊎ Contains (answers r (just o)) a)
  just-answered None r = tt
  just-answered (Some p) r = inr (0, omega arith, refl)

  coming-answered : (fate : Fate) (r : Place) → IfSome (answer_in fate (noted old packet) packet r)
      (λ a. ⊥ ⊎ Contains (answers r (coming fate (noted old packet) packet)) a)
  coming-answered Pass r = inr (0, omega arith, refl)
  coming-answered LosePacket r = tt
  coming-answered LoseAck r = tt
  coming-answered Twice r = inr (1, omega arith, refl)
  coming-answered (Old number) r = just-answered (numbered (noted old packet) number) r

  pub played-sent : (new : MemWireState) (answer : Option Ack) → new.place ≡ (played packet old).place → new.sent ≡ (played packet old).sent
      → answer ≡ answer_of packet old
      → IsSent (λ (w : MemWireState). w.place) may_bring may_answer packet answer old new
  played-sent new answer place sent heard =
      record {
        packets = coming (next_fate old) (noted old packet) packet;
        known = All-from_recursion (λ p. Contains old.sent p ⊎ (p ≡ packet)) (coming (next_fate old) (noted old packet) packet) (coming-known (next_fate old));
        stands = place;
        brings = λ p b. noted-cases old packet p (subst (λ (ps : List Packet). Contains ps p) sent b);
        answering = λ a b. absurd b;
        hears = subst (λ (o : Option Ack). IfSome o (λ a. ⊥ ⊎ Contains (answers old.place (coming (next_fate old) (noted old packet) packet)) a)) (sym heard)
            (coming-answered (next_fate old) old.place);
      }

  pub cut-sent : (mid new : MemWireState) → IsCutShort packet old mid → new.place ≡ mid.place → new.sent ≡ mid.sent
      → IsSent (λ (w : MemWireState). w.place) may_bring may_answer packet None old new
  cut-sent mid new h place sent = came h.stands
    where
      kept : (p : Packet) → Contains new.sent p → Contains old.sent p ⊎ (p ≡ packet)
      kept p c =
          elim h.kept [
            | inl e ↦ inl (subst (λ (ps : List Packet). Contains ps p) (sent ∙ e) c)
            | inr e ↦ noted-cases old packet p (subst (λ (ps : List Packet). Contains ps p) (sent ∙ e) c)
          ]

      came : (mid.place ≡ old.place) ⊎ (mid.place ≡ taken old.place packet) → IsSent (λ (w : MemWireState). w.place) may_bring may_answer packet None old new
      came (inl e) =
          record {
            packets = [];
            known = All-from_recursion (λ p. Contains old.sent p ⊎ (p ≡ packet)) [] tt;
            stands = place ∙ e;
            brings = kept;
            answering =
                λ a b. absurd b;
            hears = tt;
          }
      came (inr e) =
          record {
            packets = packet ∷ [];
            known = All-from_recursion (λ p. Contains old.sent p ⊎ (p ≡ packet)) (packet ∷ []) (inr refl, tt);
            stands =
                place ∙ e;
            brings = kept;
            answering = λ a b. absurd b;
            hears = tt;
          }
