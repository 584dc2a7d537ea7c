-- How far a session has come in its lines, along the calls of a history, and what it holds there.
use Rattle.std.proofs.Common.{◌≡◌, inl, inr, ℕ, true, false, cond, List, [], ◌∷◌, ◌++◌, append_assoc, refl, sym, ap, ◌∙◌, subst}
use Rattle.std.proofs.lemmas.Bool.{cases_Bool, false_from_ne_true}
use Rattle.std.proofs.lemmas.List.{append-nil}
use Rattle.std.proofs.lemmas.List.Elements.{All-contains, filter_passes}
use Rattle.std.proofs.lemmas.List.Folds.{list_all-map}
use Rattle.std.proofs.lemmas.List.Sums.{AllPass-from_list_all, list_all-from_AllPass}
use Rattle.std.specs.Prelude.{Contains, IsTrue, Some, is_some}
use Rattle.std.specs.List.{filter, list_all}
use Rattle.enq_base.specs.declared.owner.Scope.{Scope}
use Rattle.enq_base.specs.declared.owner.UnitKey.{UnitKey}
use Rattle.mode_rules.specs.declared.Mode.{Mode}
use Rattle.lock_entry.proofs.lemmas.Naming.{bytes_eq-same}
use Rattle.lock_objects.specs.Objects.{Object}
use Rattle.script_lang.specs.declared.script_line.RawValue.{RawValue}
use Rattle.script_lang.specs.declared.script_line.ScriptLine.{ScriptLine}
use Rattle.script_lang.specs.declared.script_line.ScriptLine.TheVariants as line
use Rattle.script_runner.specs.Sides.{side_of}
use Rattle.hall_model.specs.Recall.{Made, recalled, state_after}
use Rattle.hall_model.specs.State.{State}
use Rattle.hall_model.specs.declared.command.PastEntry.{PastEntry}
use Rattle.coverage.specs.Lacks.{Numbered, is_of, lacks}
use Rattle.coverage.specs.Locks.{any_dollar}
use Rattle.cover_laws.proofs.Lists.{never_empty, same_head, same_tail, split_in_two}
use Rattle.cover_laws.proofs.needed.AllNeeded.{AllNeeded}
use Rattle.cover_laws.proofs.needed.CoverageNeeded.{Unended, ends_unit_at, stand}
use Rattle.cover_laws.proofs.needed.HallNeeded.{AreQuiet, IsQuiet, is_on, on_after}
use Rattle.cover_laws.specs.Histories.{is_by, open_unit}
use Rattle.cover_laws.proofs.needed.HoldingNeeded.{StandsAt}
use Rattle.cover_laws.proofs.needed.LinesNeeded.{IsPlace, NextCall, Place, start_of}
use Rattle.cover_laws.specs.Own.{own_lines}
use Rattle.cover_laws.specs.Safe.{IsWithin, calls_by}

-- ---- lines that end no unit

unended_none : (objects : List Object) (before : List ScriptLine) → Unended objects before []
unended_none objects before earlier later l e = absurd (never_empty earlier later l e)

unended_one : (objects : List Object) (before : List ScriptLine) (l : ScriptLine) → ends_unit_at (stand objects before) l ≡ false
    → Unended objects before (l ∷ [])
unended_one objects before l stays [] later other e =
    subst (λ x. ends_unit_at (stand objects (before ++ [])) x ≡ false) (same_head l other [] later e)
    (subst (λ ls. ends_unit_at (stand objects ls) l ≡ false) (sym (append-nil before)) stays)
unended_one objects before l stays (x ∷ xs) later other e = absurd (never_empty xs later other (same_tail l x [] (xs ++ other ∷ later) e))

pub unended_more : (objects : List Object) (before first second : List ScriptLine) → Unended objects before first → Unended objects (before ++ first) second
    → Unended objects before (first ++ second)
unended_more objects before first second h k earlier later l e =
    elim (split_in_two first second earlier later l e) [
      | inl part ↦ h earlier part.0 l part.1
      | inr part ↦
          subst (λ ls. ends_unit_at (stand objects ls) l ≡ false) (append_assoc before first part.0 ∙ ap (λ ls. before ++ ls) (sym part.1.0))
          (k part.0 later l part.1.1)
    ]

-- ---- places

-- at this place of its lines the session stands, in this state, with these calls to come
pub record IsPlaced (objects : List Object) (lines : List Numbered) (name : List ℕ) (s : State) (p : Place) (calls : List PastEntry) : Type 0 where
  pub place : IsPlace objects name p calls
  pub whole : p.done ++ p.left ≡ own_lines name lines
  pub held : StandsAt s name (stand objects p.done).held
  pub on : is_some (side_of p.sides name) ≡ is_on s name

-- the place behind calls, and the lines that were done in them
pub record MovesOn (objects : List Object) (lines : List Numbered) (name : List ℕ) (s t : State) (p : Place) (calls : List PastEntry) : Type 0 where
  pub next : Place
  pub extra : List ScriptLine
  pub done : next.done ≡ p.done ++ extra
  pub placed : IsPlaced objects lines name t next calls
  pub unended : (unit : UnitKey) → open_unit s name ≡ Some unit → open_unit t name ≡ Some unit → Unended objects p.done extra

own_first : (name : List ℕ) (m : Made) (ms : List Made) → is_by name m.call ≡ true → calls_by name (m ∷ ms) ≡ m.call ∷ calls_by name ms
own_first name m ms is = ap (λ b. cond b (m.call ∷ calls_by name ms) (calls_by name ms)) is

others_first : (name : List ℕ) (m : Made) (ms : List Made) → is_by name m.call ≡ false → calls_by name (m ∷ ms) ≡ calls_by name ms
others_first name m ms is = ap (λ b. cond b (m.call ∷ calls_by name ms) (calls_by name ms)) is

module _ (all : AllNeeded) (objects : List Object) (lines : List Numbered) (name : List ℕ) where
  -- the next call of the session
  pub next_of : (s : State) (m : Made) (ms : List Made) (p : Place) → IsQuiet s m → is_by name m.call ≡ true
      → IsPlaced objects lines name s p (calls_by name (m ∷ ms)) → NextCall objects name p m.call (calls_by name ms)
  next_of s m ms p quiet is h =
      all.places_go_on objects name p m.call (calls_by name ms) (subst (λ calls. IsPlace objects name p calls) (own_first name m ms is) h.place)
      (all.replies_fit s m name quiet is) (λ other user e. h.on ∙ all.logons_begin s m name other user quiet is e)

  pub placed_behind : (s : State) (m : Made) (ms : List Made) (p : Place) → IsQuiet s m → is_by name m.call ≡ true
      → IsPlaced objects lines name s p (calls_by name (m ∷ ms)) → (n : NextCall objects name p m.call (calls_by name ms))
      → IsPlaced objects lines name (recalled s m) n.next (calls_by name ms)
  placed_behind s m ms p quiet is h n = record {
    place = n.place;
    whole =
        ap (λ ls. ls ++ n.next.left) n.done
        ∙ append_assoc p.done (n.quiet ++ n.made_by ∷ []) n.next.left
        ∙ ap (λ ls. p.done ++ ls) (append_assoc n.quiet (n.made_by ∷ []) n.next.left ∙ sym n.left)
        ∙ h.whole;
    held =
        all.own_calls_hold s m name (stand objects p.done).held (stand objects n.next.done).held quiet is
        (all.held_is_exclusive objects p.done) n.moves h.held;
    on = n.on ∙ ap (on_after m.call.command) h.on ∙ sym (all.logs_are_seen s m name quiet is);
  }

  own_moves : (s : State) (m : Made) (ms : List Made) (p : Place) → IsQuiet s m → is_by name m.call ≡ true
      → IsPlaced objects lines name s p (calls_by name (m ∷ ms)) → MovesOn objects lines name s (recalled s m) p (calls_by name ms)
  own_moves s m ms p quiet is h =
      let n = next_of s m ms p quiet is h in
      record {
        next = n.next;
        extra = n.quiet ++ n.made_by ∷ [];
        done = n.done;
        placed = placed_behind s m ms p quiet is h n;
        unended = λ unit first last.
            unended_more objects p.done n.quiet (n.made_by ∷ []) n.still
            (unended_one objects (p.done ++ n.quiet) n.made_by
            (n.ends ∙ false_from_ne_true _ (λ ends. all.ends_are_seen s m name unit quiet is ends first last)));
      }

  others_move : (s : State) (m : Made) (ms : List Made) (p : Place) → IsQuiet s m → is_by name m.call ≡ false
      → IsPlaced objects lines name s p (calls_by name (m ∷ ms)) → MovesOn objects lines name s (recalled s m) p (calls_by name ms)
  others_move s m ms p quiet is h = record {
    next = p;
    extra = [];
    done = sym (append-nil p.done);
    placed = record {
      place = subst (λ calls. IsPlace objects name p calls) (others_first name m ms is) h.place;
      whole = h.whole;
      held = all.other_calls_hold s m name (stand objects p.done).held quiet is (all.held_is_exclusive objects p.done) h.held;
      on = h.on ∙ sym (all.others_leave_on s m name quiet is);
    };
    unended = λ unit first last. unended_none objects p.done;
  }

  pub moves_on : (s : State) (m : Made) (ms : List Made) (p : Place) → IsQuiet s m → IsPlaced objects lines name s p (calls_by name (m ∷ ms))
      → MovesOn objects lines name s (recalled s m) p (calls_by name ms)
  moves_on s m ms p quiet h =
      elim (cases_Bool (is_by name m.call)) [ inl is ↦ own_moves s m ms p quiet is h | inr is ↦ others_move s m ms p quiet is h ]

  -- over some calls
  pub moves_over : (s : State) (ms rest : List Made) (p : Place) → AreQuiet s ms → IsPlaced objects lines name s p (calls_by name (ms ++ rest))
      → MovesOn objects lines name s (state_after s ms) p (calls_by name rest)
  moves_over s [] rest p quiet h = record {
    next = p;
    extra = [];
    done = sym (append-nil p.done);
    placed = h;
    unended = λ unit first last. unended_none objects p.done;
  }
  moves_over s (m ∷ ms) rest p quiet h =
      let one = moves_on s m (ms ++ rest) p quiet.0 h in
      let far = moves_over (recalled s m) ms rest one.next quiet.1 one.placed in
      record {
        next = far.next;
        extra = one.extra ++ far.extra;
        done = far.done ∙ ap (λ ls. ls ++ far.extra) one.done ∙ append_assoc p.done one.extra far.extra;
        placed = far.placed;
        unended = λ unit first last.
            let between = (all.units_stay_open s (m ∷ []) ms name unit quiet first last).open_now in
            unended_more objects p.done one.extra far.extra (one.unended unit first between)
            (subst (λ ls. Unended objects ls far.extra) one.done (far.unended unit between last));
      }

-- ---- the first place

are_own : (name : List ℕ) (lines : List Numbered) → IsTrue (list_all (is_of name) (own_lines name lines))
are_own name lines =
    let own = filter (λ (x : Numbered). is_of name x.1) lines in
    list_all-map (is_of name) (λ (x : Numbered). x.1) own
    ∙ list_all-from_AllPass (λ (x : Numbered). is_of name x.1) own (filter_passes (λ (x : Numbered). is_of name x.1) lines)

own_frees : (all : AllNeeded) (objects : List Object) (lines : List Numbered) (name : List ℕ) → lacks objects lines ≡ []
    → (s object : List ℕ) (m : Mode) (scope : Scope) (values : List RawValue) → Contains (own_lines name lines) (line.Deq s object m scope values)
    → any_dollar values ≡ false
own_frees all objects lines name clean s object m scope values is =
    let l = line.Deq s object m scope values in
    let mine : is_of name l ≡ true =
    All-contains (λ x. is_of name x ≡ true) (own_lines name lines) l (AllPass-from_list_all (is_of name) (own_lines name lines) (are_own name lines)) is in
    let same : name ≡ s = sym (bytes_eq-same s name mine) in
    all.frees_are_plain objects lines s object m scope values clean (subst (λ n. Contains (own_lines n lines) l) same is)

pub first_placed : (all : AllNeeded) (objects : List Object) (lines : List Numbered) (first : State) (made : List Made) (name : List ℕ)
    → lacks objects lines ≡ [] → IsWithin objects lines first made → IsPlaced objects lines name first (start_of (own_lines name lines)) (calls_by name made)
first_placed all objects lines first made name clean h =
    let begun = h.begun in
    record {
      place = record {
        own = are_own name lines;
        plain = own_frees all objects lines name clean;
        rest = h.own name;
        matches = all.first_places objects name;
      };
      whole = refl;
      held = subst (λ s. StandsAt s name []) (sym begun.start) (record { off = λ none. refl; on = λ x at kept. absurd cc });
      on = sym (ap (λ s. is_on s name) begun.start);
    }
