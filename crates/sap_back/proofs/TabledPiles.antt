-- The tables behind an embedded rule: the same facts are taken on both sides, and the same come.
use Rattle.std.proofs.Common.{◌≡◌, ℕ, zero, suc, ◌+◌, ◌≤◌, List, [], ◌∷◌, Option, Some, None, refl, sym, ap, ◌∙◌, subst, arith, slice_get, slice_set, map, length, true, false, Bool}
use Rattle.std.specs.Prelude.{if◌then◌else◌}
use Rattle.std.specs.List.{AllZip}
use Rattle.sap_terms.specs.Piles.{Pile, Takes, nothing, one, adds, used}
use Rattle.sap_terms.specs.Reserved.{is_reserved}
use Rattle.sap_terms.specs.Signature.{Sig}
use Rattle.sap_terms.specs.Tree.{Tree}
use Rattle.sap_terms.specs.declared.fact.Fact.{Fact}
use Rattle.sap_process.specs.Configuration.{Config}
use Rattle.sap_process.specs.Proc.{Proc}
use Rattle.sap_place.specs.StateFacts.{state_fact}
use Rattle.sap_rule.specs.RuleSteps.{RuleState}
use Rattle.sap_translate.specs.Members.{Member}
use Rattle.sap_translate.specs.Scoped.{AreUnreserved}
use Rattle.sap_templates.specs.Templates.{first_of}
use Rattle.sap_translate.specs.relation.Agents.{Agent, running}
use Rattle.sap_translate.specs.relation.Answers.{at_first, goes_on as onwards}
use Rattle.sap_translate.specs.relation.Envs.{Env, values}
use Rattle.std.proofs.lemmas.List.{length-append, length-map}
use Rattle.sap_back.proofs.Changes.{Comes, changed, control_or_user}
use Rattle.sap_translate.proofs.Shared.Lookups.{get-append_left, get-set_same, get-set_other, map_get}
use Rattle.sap_back.proofs.Effects.{Embeds}
use Rattle.sap_back.proofs.TabledThreads.{Once, born_set, entries_stay, is_born, longer_path, pending_stays, same_longer, stand_moved, unlike_running}
use Rattle.sap_translate.proofs.Shared.Names.{state_name_same}
use Rattle.sap_back.proofs.Takings.{used_kept, used_gone, takes_kept, takes_later, takes_length, length_set}
use Rattle.sap_back.specs.Followed.{SeatedByFact, left_pending}
use Rattle.sap_rule_lines.specs.RuleLines.{numbers_from}
use Rattle.sap_process_lines.specs.Tables.{with_pile, ProcessTables, waiting}
use Rattle.sap_back.specs.Tables.{AreProcessTables, IsPending}

-- a live fact with a name of its own has there the number that the table has for it
abbrev Paired : List ℕ → Pile → Pile → Type 0
Paired numbers xs ys = (i j : ℕ) (f : Fact) → is_reserved f.name ≡ false → slice_get xs i ≡ Some (Some f) → slice_get numbers i ≡ Some j → slice_get ys j ≡ Some (Some f)

-- and no other has it
abbrev Apart : List ℕ → Pile → Type 0
Apart numbers xs = (i k j : ℕ) (f h : Fact) → is_reserved f.name ≡ false → is_reserved h.name ≡ false → slice_get xs i ≡ Some (Some f) → slice_get xs k ≡ Some (Some h) → slice_get numbers i ≡ Some j → slice_get numbers k ≡ Some j → i ≡ k

-- one is taken on both sides
used_paired : (numbers : List ℕ) (xs ys : Pile) (k o : ℕ) (f : Fact) → Paired numbers xs ys → Apart numbers xs → is_reserved f.name ≡ false → slice_get xs k ≡ Some (Some f) → slice_get numbers k ≡ Some o → Paired numbers (used xs k f) (used ys o f)
used_paired numbers xs ys k o f pair apart user e n i j h free a b = go f.persistent refl
  where
    there : slice_get ys j ≡ Some (Some h)
    there = pair i j h free (used_kept xs k i f h a) b

    other : f.persistent ≡ false → o ≡ j → ⊥
    other linear same =
        let number : i ≡ k = apart i k j h f free user (used_kept xs k i f h a) e b (n ∙ ap (λ q. Some q) same) in
        used_gone xs k f h linear (ap (λ q. slice_get (used xs k f) q) (sym number) ∙ a)

    go : (b : Bool) → f.persistent ≡ b → slice_get (if b then ys else slice_set ys o None) j ≡ Some (Some h)
    go true p = there
    go false p = get-set_other ys o j None (other p) ∙ there

used_apart : (numbers : List ℕ) (xs : Pile) (k : ℕ) (f : Fact) → Apart numbers xs → Apart numbers (used xs k f)
used_apart numbers xs k f apart i l j a b u v e h n m = apart i l j a b u v (used_kept xs k i f a e) (used_kept xs k l f b h) n m

head_number : (numbers : List ℕ) (k o : ℕ) (ks os : List ℕ) → slice_get numbers k ∷ map (slice_get numbers) ks ≡ Some o ∷ map (λ i. Some i) os → (slice_get numbers k ≡ Some o) × (map (slice_get numbers) ks ≡ map (λ i. Some i) os)
head_number numbers k o ks os e = (cc, cc)

-- all are
take_both : (numbers : List ℕ) {xs rest ys left : Pile} {ks os : List ℕ} {fs : List Fact} → Takes xs ks fs rest → Takes ys os fs left → map (slice_get numbers) ks ≡ map (λ i. Some i) os → AreUnreserved fs → Paired numbers xs ys → Apart numbers xs → Paired numbers rest left
take_both numbers nothing nothing e user pair apart = pair
take_both numbers (one {facts = xs} {k = k} {ks = ks} {f = f} a h) (one {facts = ys} {k = o} {ks = os} b l) e user pair apart =
    let first = head_number numbers k o ks os e in
    take_both numbers h l first.1 (λ x m. user x (Member.later m)) (used_paired numbers xs ys k o f pair apart (user f Member.here) a first.0) (used_apart numbers xs k f apart)

-- a fact that is added
added_get : (left : Pile) (right : List Fact) (i j : ℕ) (f : Fact) → j ≡ length left + i → slice_get right i ≡ Some f → slice_get (adds left right) j ≡ Some (Some f)
added_get [] right i j f same e = let h : j ≡ i = omega arith in ap (λ q. slice_get (map (λ f. Some f) right) q) h ∙ map_get (λ f. Some f) right i f e
added_get (x ∷ left) right i zero f same e = absurd (omega arith)
added_get (x ∷ left) right i (suc j) f same e = added_get left right i j f (omega arith) e

-- the number at a place
number_at : (n many i j : ℕ) → slice_get (numbers_from n many) i ≡ Some j → j ≡ n + i
number_at n zero i j e = absurd (cc)
number_at n (suc many) zero j e = let h : n ≡ j = cc in omega arith
number_at n (suc many) (suc i) j e = let h = number_at (n + 1) many i j e in omega arith

-- those that come are in the pile
piled_come : (agents next : List (Option Agent)) (c d : Config) (fs : List Tree) (right : List Fact) (n : ℕ) → AreUnreserved right → length c.facts ≤ n → ((i : ℕ) (f : Fact) → slice_get right i ≡ Some f → slice_get d.facts (n + i) ≡ Some (Some f))
    → AllZip (Comes agents next c d fs) right (numbers_from n (length right))
piled_come agents next c d fs [] n user low is = tt
piled_come agents next c d fs (f ∷ right) n user low is =
    let here : n + 0 ≡ n = omega arith in (
      Comes.piled (user f Member.here) (ap (λ i. slice_get d.facts i) (sym here) ∙ is 0 f refl) low,
      piled_come agents next c d fs right (n + 1) (λ x m. user x (Member.later m)) (omega arith) (λ i h e. let same : n + 1 + i ≡ n + suc i = omega arith in ap (λ q. slice_get d.facts q) same ∙ is (suc i) h e),
    )

-- an item of the list is a member
got_member : (xs : List Fact) (i : ℕ) (f : Fact) → slice_get xs i ≡ Some f → Member f xs
got_member [] i f e = cc
got_member (x ∷ xs) zero f e = let same : x ≡ f = cc in subst (λ y. Member y (x ∷ xs)) same Member.here
got_member (x ∷ xs) (suc i) f e = Member.later (got_member xs i f e)

-- of a fact of control and others, that one alone is of control
once_first : (x : Fact) (right : List Fact) → AreUnreserved right → Once (x ∷ right)
once_first x right user zero zero f control e h = refl
once_first x right user zero (suc j) f control e h = absurd (control_or_user f control (user f (got_member right j f h)))
once_first x right user (suc i) j f control e h = absurd (control_or_user f control (user f (got_member right i f e)))

piled_apart : (x : Fact) (right : List Fact) (t n many i k j : ℕ) (f h : Fact) → is_reserved x.name ≡ true → is_reserved f.name ≡ false → is_reserved h.name ≡ false → slice_get (x ∷ right) i ≡ Some f → slice_get (x ∷ right) k ≡ Some h
    → slice_get (t ∷ numbers_from n many) i ≡ Some j → slice_get (t ∷ numbers_from n many) k ≡ Some j → i ≡ k
piled_apart x right t n many zero k j f h taken user free a b e o = absurd (let same : x ≡ f = cc in let z : true ≡ false = sym taken ∙ ap (λ (y : Fact). is_reserved y.name) same ∙ user in cc)
piled_apart x right t n many (suc i) zero j f h taken user free a b e o = absurd (let same : x ≡ h = cc in let z : true ≡ false = sym taken ∙ ap (λ (y : Fact). is_reserved y.name) same ∙ free in cc)
piled_apart x right t n many (suc i) (suc k) j f h taken user free a b e o = let p = number_at n many i j e in let q = number_at n many k j o in omega arith

left_stays : (es fs : List Tree) → ((e : ℕ) (x : Tree) → slice_get es e ≡ Some x → slice_get fs e ≡ Some x) → (acts : List Fact) (pending : Option Tree) (k : Option ℕ) → IsPending es pending k → IsPending fs (left_pending acts pending) (left_pending acts k)
left_stays es fs longer [] pending k h = pending_stays es fs longer pending k h
left_stays es fs longer (f ∷ acts) pending k h = refl

module _ (g : Sig) (agents : List (Option Agent)) (pending : Option Tree) (c : Config) (es : List Tree) (s : RuleState) (tables : ProcessTables) (old : AreProcessTables agents pending c es s tables) (z : RuleState) (d : Config) (fs : List Tree) where
  pub embeds : (t k : ℕ) (js ks path : List ℕ) (env wider : Env) (body p : Proc) (o acts : List Fact) → SeatedByFact agents s tables t k path env body → map (slice_get tables.facts) js ≡ map (λ i. Some i) ks → Embeds s z c es d fs k js ks (state_fact path (values env)) (at_first path wider) o
      → AreProcessTables (onwards agents t path wider p) (left_pending acts pending) d fs z (waiting (with_pile tables t (length o)) (left_pending acts tables.pending))
  embeds t k js ks path env wider body p o acts seated numbers e = changed agents pending c es s tables old next (left_pending acts pending) d fs z behind (record {
    rest = e.trades.rest;
    right = at_first path wider ∷ e.right;
    numbers = t ∷ numbers_from tables.piled (length o);
    facts = ap (λ (x : RuleState). x.facts) e.trades.becomes;
    numbered = refl;
    kept = takes_kept e.trades.takes;
    size = takes_length e.trades.takes;
    come = (
      Comes.stands to refl (get-set_same agents t (Some (running path env body)) (Some to) seated.stands.thread) Member.here (unlike_running g agents pending c es s tables old t path env body (at_first path wider) seated.stands.thread (λ i. longer_path path 1 (state_name_same (first_of path) path i))),
      subst (λ many. AllZip (Comes agents next c d fs) e.right (numbers_from tables.piled many)) e.many (piled_come agents next c d fs e.right tables.piled e.user low is_piled),
    );
    once = once_first (at_first path wider) e.right e.user;
    piled_once = λ i l j f h user free a b n m. piled_apart (at_first path wider) e.right t tables.piled (length o) i l j f h refl user free a b n m;
    stand = stand_moved g agents pending c es s tables old t k js path env body e.taken e.trades.rest (Some to) seated e.trades.takes;
    pile = λ i j f user a n. ap (λ xs. slice_get xs j) e.facts ∙ get-append_left e.left (map (λ f. Some f) e.right) j (Some f) (paired i j f user a n);
    longer = longer;
    entries = λ i a n. entries_stay g agents pending c es s tables old fs longer i a n ∙ ap (λ xs. slice_get xs i) (sym terms);
    waits = left_stays es fs longer acts pending tables.pending old.waits;
    unborn_first = born_set agents t (Some to) old.unborn (is_born to refl);
    all_entries = old.all_entries ∙ ap (λ (xs : List Tree). length xs) (sym terms);
    threads = old.threads ∙ sym (length_set agents t (Some to));
    known = old.known ∙ ap (λ (xs : List Tree). length xs) (sym e.entries);
    piled = all_piled;
  })
    where
      to : Agent
      to = running (first_of path) wider p

      next : List (Option Agent)
      next = slice_set agents t (Some to)

      behind : ProcessTables
      behind = waiting (with_pile tables t (length o)) (left_pending acts tables.pending)

      longer : (i : ℕ) (x : Tree) → slice_get es i ≡ Some x → slice_get fs i ≡ Some x
      longer = same_longer es fs e.entries

      terms : z.known ≡ s.known
      terms = ap (λ (x : RuleState). x.known) e.trades.becomes

      left_size : length e.left ≡ length c.facts
      left_size = takes_length e.takes

      low : length c.facts ≤ tables.piled
      low = let h = old.piled in omega arith

      is_piled : (i : ℕ) (f : Fact) → slice_get e.right i ≡ Some f → slice_get d.facts (tables.piled + i) ≡ Some (Some f)
      is_piled i f a = let h = old.piled in let l = left_size in ap (λ xs. slice_get xs (tables.piled + i)) e.facts ∙ added_get e.left e.right i (tables.piled + i) f (omega arith) a

      paired : Paired tables.facts e.trades.rest e.left
      paired = take_both tables.facts (takes_later e.trades.takes) e.takes numbers e.own
          (λ i j f user a n. old.piles i j f user (used_kept s.facts k i (state_fact path (values env)) f a) n)
          (used_apart tables.facts s.facts k (state_fact path (values env)) old.pile_apart)

      all_piled : tables.piled + length o ≡ length d.facts
      all_piled =
          let a : length d.facts ≡ length (adds e.left e.right) = ap (λ (xs : Pile). length xs) e.facts in
          let b = length-append e.left (map (λ f. Some f) e.right) in
          let h = length-map e.right (λ (f : Fact). Some f) in
          let i = left_size in
          let j = old.piled in
          let l = e.many in
          omega arith
