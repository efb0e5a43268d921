-- The store against the full trace, after one more place; sapic_in and sapic_notin.
use Rattle.sap_restrict.specs.ReservedFacts.{insert_fact, delete_fact, is_in_fact, is_not_set_fact}
use Rattle.sap_translate.specs.Members.{Member}
use Rattle.sap_translate.specs.relation.Shown.{ShowsAt}
use Rattle.sap_restrict.specs.Sentences.{IsFound, EachFound, EachMissed}
use Rattle.sap_translate.proofs.Shared.Facts.{names_apart}
use Rattle.sap_translate.proofs.Shared.Inputs.{has_more, has_last, has_within, has_where, Where, old, new}
use Rattle.sap_translate.proofs.Shared.Lookups.{only_member}
use Rattle.sap_translate.specs.relation.Names.{name_among}
use Rattle.sap_translate.specs.relation.Related.{Stored, NotSet, StorePart}
use Rattle.sap_process.specs.Configuration.{stored}
use Rattle.sap_terms.proofs.PlainLaws.Tests.{same_tree-refl, same_tree-sound}
use Rattle.sap_terms.specs.Same.{same_tree}
use Rattle.sap_terms.specs.Message.{IsMessage}
use Rattle.sap_terms.specs.Signature.{Sig}
use Rattle.sap_terms.specs.declared.var.Sort.TheVariants.{Msg}
use Rattle.sap_terms.specs.Trace.{Trace}
use Rattle.sap_terms.specs.Tree.{Tree}
use Rattle.sap_terms.specs.declared.fact.Fact.{Fact}
use Rattle.std.proofs.Common.{◌≡◌, ℕ, ◌<◌, ◌≤◌, inl, inr, List, [], ◌∷◌, ◌++◌, Option, Some, None, refl, sym, ap, ◌∙◌, arith, Bool, true, false, cond, length, subst}
use Rattle.std.specs.Prelude.{codes}
use Rattle.std.specs.Str.{bytes_eq}

pub differ : (f g : Fact) → f ≡ g → bytes_eq f.name g.name ≡ false → ⊥
differ f g e h = names_apart f.name g.name h (ap (λ (z : Fact). z.name) e)

-- facts that write the store
abbrev pub is_write : List ℕ → Bool
is_write name = name_among name (codes "Insert" ∷ codes "Delete" ∷ [])

abbrev pub NoWrite : List Fact → Type 0
NoWrite acts = (f : Fact) → Member f acts → is_write f.name ≡ false

pub no_write_none : NoWrite []
no_write_none f m = elim m [ ]

pub no_write_one : (f : Fact) → is_write f.name ≡ false → NoWrite (f ∷ [])
no_write_one f e g m = subst (λ x. is_write x.name ≡ false) (sym (only_member m)) e

pub no_write_more : (f : Fact) (fs : List Fact) → is_write f.name ≡ false → NoWrite fs → NoWrite (f ∷ fs)
no_write_more f fs e rest g Member.here = e
no_write_more f fs e rest g (Member.later m) = rest g m

writes : (acts : List Fact) (f : Fact) → NoWrite acts → is_write f.name ≡ true → Member f acts → ⊥
writes acts f none e m = let h = none f m in let z : true ≡ false = sym e ∙ h in cc

-- what an admitted look-up says

pub found_now : (full : Trace) (x v : Tree) → EachFound (ShowsAt (full ++ (is_in_fact x v ∷ []) ∷ [])) → Stored full x v
found_now full x v h =
    let p = is_in_fact x v ∷ [] in
    let g = h x v (length full) (has_last full p (is_in_fact x v) Member.here) in
    let s = g.1 in
    record {
      place = g.0;
      inserted = elim (has_where full p g.0 (insert_fact x v) s.inserted) [ old a b ↦ b | new e m ↦ absurd (differ (insert_fact x v) (is_in_fact x v) (only_member m) refl) ];
      deletes = λ k a. let lt = has_within full k (delete_fact x) a in elim (s.deletes k (has_more full p k (delete_fact x) a)) [ inl b ↦ b | inr b ↦ absurd (omega arith) ];
      inserts = λ z k a. let lt = has_within full k (insert_fact x z) a in elim (s.inserts z k (has_more full p k (insert_fact x z) a)) [ inl b ↦ b | inr b ↦ absurd (omega arith) ];
    }

pub missed_now : (full : Trace) (x : Tree) → EachMissed (ShowsAt (full ++ (is_not_set_fact x ∷ []) ∷ [])) → NotSet full x
missed_now full x h v j a =
    let p = is_not_set_fact x ∷ [] in
    let lt = has_within full j (insert_fact x v) a in
    let g = h x v (length full) j (has_last full p (is_not_set_fact x) Member.here) (has_more full p j (insert_fact x v) a) lt in
    (g.0, elim (has_where full p g.0 (delete_fact x) g.1) [ old b c ↦ c | new e m ↦ absurd (differ (delete_fact x) (is_not_set_fact x) (only_member m) refl) ], g.2)

-- and when one is admitted

lift_found : (full : Trace) (p : List Fact) (i j : ℕ) (x v : Tree) → i < length full → IsFound (ShowsAt full) i x v j → IsFound (ShowsAt (full ++ p ∷ [])) i x v j
lift_found full p i j x v lt s = record {
  inserted = has_more full p j (insert_fact x v) s.inserted;
  before = s.before;
  deletes = λ k a. elim (has_where full p k (delete_fact x) a) [ old b c ↦ s.deletes k c | new b c ↦ inr (omega arith) ];
  inserts = λ z k a. elim (has_where full p k (insert_fact x z) a) [ old b c ↦ s.inserts z k c | new b c ↦ inr (omega arith) ];
}

pub found_quiet : (full : Trace) (p : List Fact) → EachFound (ShowsAt full) → ((x v : Tree) → Member (is_in_fact x v) p → ⊥) → EachFound (ShowsAt (full ++ p ∷ []))
found_quiet full p h quiet x v i a = elim (has_where full p i (is_in_fact x v) a) [
  | old lt b ↦ (let g = h x v i b in (g.0, lift_found full p i g.0 x v lt g.1))
  | new e m ↦ absurd (quiet x v m)
]

two_args : (x y v w : Tree) (f g : Fact) → f.args ≡ x ∷ y ∷ [] → g.args ≡ v ∷ w ∷ [] → f ≡ g → (x ≡ v) × (y ≡ w)
two_args x y v w f g a b e = let h : f.args ≡ g.args = ap (λ (z : Fact). z.args) e in (cc, cc)

one_arg : (x y : Tree) (f g : Fact) → f.args ≡ x ∷ [] → g.args ≡ y ∷ [] → f ≡ g → x ≡ y
one_arg x y f g a b e = let h : f.args ≡ g.args = ap (λ (z : Fact). z.args) e in cc

pub found_ok : (full : Trace) (x v : Tree) → EachFound (ShowsAt full) → Stored full x v → EachFound (ShowsAt (full ++ (is_in_fact x v ∷ []) ∷ []))
found_ok full x v h s y w i a = elim (has_where full p i (is_in_fact y w) a) [
  | old lt b ↦ (let g = h y w i b in (g.0, lift_found full p i g.0 y w lt g.1))
  | new e m ↦ (let same = two_args y w x v (is_in_fact y w) (is_in_fact x v) refl refl (only_member m) in
      let here : (j : ℕ) × IsFound (ShowsAt (full ++ p ∷ [])) i x v j = (s.place, at i e) in
      subst (λ z. (j : ℕ) × IsFound (ShowsAt (full ++ p ∷ [])) i z w j) (sym same.0) (subst (λ z. (j : ℕ) × IsFound (ShowsAt (full ++ p ∷ [])) i x z j) (sym same.1) here))
]
  where
    p : List Fact
    p = is_in_fact x v ∷ []

    at : (i : ℕ) → i ≡ length full → IsFound (ShowsAt (full ++ (is_in_fact x v ∷ []) ∷ [])) i x v s.place
    at i e =
        let lt = has_within full s.place (insert_fact x v) s.inserted in
        record {
          inserted = has_more full (is_in_fact x v ∷ []) s.place (insert_fact x v) s.inserted;
          before = omega arith;
          deletes = λ k a. elim (has_where full (is_in_fact x v ∷ []) k (delete_fact x) a) [ old b c ↦ inl (s.deletes k c) | new b c ↦ absurd (differ (delete_fact x) (is_in_fact x v) (only_member c) refl) ];
          inserts = λ z k a. elim (has_where full (is_in_fact x v ∷ []) k (insert_fact x z) a) [ old b c ↦ inl (s.inserts z k c) | new b c ↦ absurd (differ (insert_fact x z) (is_in_fact x v) (only_member c) refl) ];
        }

pub missed_quiet : (full : Trace) (p : List Fact) → EachMissed (ShowsAt full) → ((x : Tree) → Member (is_not_set_fact x) p → ⊥) → EachMissed (ShowsAt (full ++ p ∷ []))
missed_quiet full p h quiet x y i j a b lt = elim (has_where full p i (is_not_set_fact x) a) [
  | new e m ↦ absurd (quiet x m)
  | old c d ↦ elim (has_where full p j (insert_fact x y) b) [
    | old e f ↦ (let g = h x y i j d f lt in (g.0, has_more full p g.0 (delete_fact x) g.1, g.2, g.3))
    | new e m ↦ absurd (omega arith)
  ]
]

pub missed_ok : (full : Trace) (x : Tree) → EachMissed (ShowsAt full) → NotSet full x → EachMissed (ShowsAt (full ++ (is_not_set_fact x ∷ []) ∷ []))
missed_ok full x h n y z i j a b lt = elim (has_where full p j (insert_fact y z) b) [
  | new e m ↦ absurd (differ (insert_fact y z) (is_not_set_fact x) (only_member m) refl)
  | old e f ↦ elim (has_where full p i (is_not_set_fact y) a) [
    | old c d ↦ (let g = h y z i j d f lt in (g.0, has_more full p g.0 (delete_fact y) g.1, g.2, g.3))
    | new c m ↦ (let same : y ≡ x = one_arg y x (is_not_set_fact y) (is_not_set_fact x) refl refl (only_member m) in
        let g = n z j (subst (λ w. ShowsAt full j (insert_fact w z)) same f) in
        let within = has_within full g.0 (delete_fact x) g.1 in
        (g.0, has_more full p g.0 (delete_fact y) (subst (λ w. ShowsAt full g.0 (delete_fact w)) (sym same) g.1), g.2, omega arith))
  ]
]
  where
    p : List Fact
    p = is_not_set_fact x ∷ []

pub found_before : (full : Trace) (p : List Fact) → EachFound (ShowsAt (full ++ p ∷ [])) → EachFound (ShowsAt full)
found_before full p h x v i a =
    let lt = has_within full i (is_in_fact x v) a in
    let g = h x v i (has_more full p i (is_in_fact x v) a) in
    let s = g.1 in
    let bj = s.before in (
      g.0,
      record {
        inserted = elim (has_where full p g.0 (insert_fact x v) s.inserted) [ old b c ↦ c | new e m ↦ absurd (omega arith) ];
        before = s.before;
        deletes = λ k b. s.deletes k (has_more full p k (delete_fact x) b);
        inserts = λ z k b. s.inserts z k (has_more full p k (insert_fact x z) b);
      },
    )

pub missed_before : (full : Trace) (p : List Fact) → EachMissed (ShowsAt (full ++ p ∷ [])) → EachMissed (ShowsAt full)
missed_before full p h x y i j a b lt =
    let w = has_within full i (is_not_set_fact x) a in
    let g = h x y i j (has_more full p i (is_not_set_fact x) a) (has_more full p j (insert_fact x y) b) lt in
    let gt = g.3 in
    (g.0, elim (has_where full p g.0 (delete_fact x) g.1) [ old c d ↦ d | new e m ↦ absurd (omega arith) ], g.2, g.3)

-- what is stored

stored_kept : (full : Trace) (p : List Fact) (x v : Tree) → (Member (delete_fact x) p → ⊥) → ((z : Tree) → Member (insert_fact x z) p → ⊥) → Stored full x v → Stored (full ++ p ∷ []) x v
stored_kept full p x v d n s = record {
  place = s.place;
  inserted = has_more full p s.place (insert_fact x v) s.inserted;
  deletes = λ k a. elim (has_where full p k (delete_fact x) a) [ old b c ↦ s.deletes k c | new e m ↦ absurd (d m) ];
  inserts = λ z k a. elim (has_where full p k (insert_fact x z) a) [ old b c ↦ s.inserts z k c | new e m ↦ absurd (n z m) ];
}

unset_kept : (full : Trace) (p : List Fact) (x : Tree) → ((z : Tree) → Member (insert_fact x z) p → ⊥) → NotSet full x → NotSet (full ++ p ∷ []) x
unset_kept full p x n h v j a = elim (has_where full p j (insert_fact x v) a) [
  | old b c ↦ (let g = h v j c in (g.0, has_more full p g.0 (delete_fact x) g.1, g.2))
  | new e m ↦ absurd (n v m)
]

insert_stores : (full : Trace) (x v : Tree) → Stored (full ++ (insert_fact x v ∷ []) ∷ []) x v
insert_stores full x v = record {
  place = length full;
  inserted = has_last full (insert_fact x v ∷ []) (insert_fact x v) Member.here;
  deletes = λ k a. elim (has_where full (insert_fact x v ∷ []) k (delete_fact x) a) [ old b c ↦ b | new e m ↦ absurd (differ (delete_fact x) (insert_fact x v) (only_member m) refl) ];
  inserts = λ z k a. elim (has_where full (insert_fact x v ∷ []) k (insert_fact x z) a) [ old b c ↦ omega arith | new e m ↦ omega arith ];
}

delete_unsets : (full : Trace) (x : Tree) → NotSet (full ++ (delete_fact x ∷ []) ∷ []) x
delete_unsets full x v j a = elim (has_where full (delete_fact x ∷ []) j (insert_fact x v) a) [
  | old b c ↦ (length full, has_last full (delete_fact x ∷ []) (delete_fact x) Member.here, b)
  | new e m ↦ absurd (differ (insert_fact x v) (delete_fact x) (only_member m) refl)
]

stored_not_unset : (full : Trace) (x v : Tree) → Stored full x v → NotSet full x → ⊥
stored_not_unset full x v s n = let g = n v s.place s.inserted in let lt = s.deletes g.0 g.1 in let gt = g.2 in omega arith

le_both : (i j : ℕ) → i ≤ j → j ≤ i → i ≡ j
le_both i j a b = omega arith

stored_one : (full : Trace) (x v w : Tree) → ((i : ℕ) (a b : Tree) → ShowsAt full i (insert_fact x a) → ShowsAt full i (insert_fact x b) → a ≡ b) → Stored full x v → Stored full x w → v ≡ w
stored_one full x v w single s t =
    let same : s.place ≡ t.place = le_both s.place t.place (t.inserts v s.place s.inserted) (s.inserts w t.place t.inserted) in
    single t.place v w (subst (λ i. ShowsAt full i (insert_fact x v)) same s.inserted) t.inserted

-- the part

single_more : (full : Trace) (p : List Fact) → ((i : ℕ) (x a b : Tree) → ShowsAt full i (insert_fact x a) → ShowsAt full i (insert_fact x b) → a ≡ b) → ((x a b : Tree) → Member (insert_fact x a) p → Member (insert_fact x b) p → a ≡ b) → (i : ℕ) (x a b : Tree) → ShowsAt (full ++ p ∷ []) i (insert_fact x a) → ShowsAt (full ++ p ∷ []) i (insert_fact x b) → a ≡ b
single_more full p h one i x a b u v = go (has_where full p i (insert_fact x a) u) (has_where full p i (insert_fact x b) v)
  where
    go : Where full p i (insert_fact x a) → Where full p i (insert_fact x b) → a ≡ b
    go (old c d) (old e f) = h i x a b d f
    go (old c d) (new e f) = absurd (omega arith)
    go (new c d) (old e f) = absurd (omega arith)
    go (new c d) (new e f) = one x a b d f

pub store_quiet : (g : Sig) (store : Tree → Option Tree) (full : Trace) (p : List Fact) → StorePart g store full → NoWrite p → StorePart g store (full ++ p ∷ [])
store_quiet g store full p s none = record {
  held = λ x v h. stored_kept full p x v (writes p (delete_fact x) none refl) (λ z. writes p (insert_fact x z) none refl) (s.held x v h);
  values = s.values;
  empty = λ x h. unset_kept full p x (λ z. writes p (insert_fact x z) none refl) (s.empty x h);
  single = single_more full p s.single (λ x a b m n. absurd (writes p (insert_fact x a) none refl m));
}

other_insert : (x v y z : Tree) → same_tree x y ≡ false → Member (insert_fact y z) (insert_fact x v ∷ []) → ⊥
other_insert x v y z e m =
    let same = (two_args y z x v (insert_fact y z) (insert_fact x v) refl refl (only_member m)).0 in
    let t : same_tree x y ≡ true = subst (λ w. same_tree w y ≡ true) same (same_tree-refl y) in
    let f : true ≡ false = sym t ∙ e in
    cc

other_delete : (x y : Tree) → same_tree x y ≡ false → Member (delete_fact y) (delete_fact x ∷ []) → ⊥
other_delete x y e m =
    let same : y ≡ x = one_arg y x (delete_fact y) (delete_fact x) refl refl (only_member m) in
    let t : same_tree x y ≡ true = subst (λ w. same_tree w y ≡ true) same (same_tree-refl y) in
    let f : true ≡ false = sym t ∙ e in
    cc

pub store_insert : (g : Sig) (store : Tree → Option Tree) (full : Trace) (x v : Tree) → StorePart g store full → IsMessage g Msg v → StorePart g (stored store x (Some v)) (full ++ (insert_fact x v ∷ []) ∷ [])
store_insert g store full x v s message = record {
  held = λ y w h. held y w (same_tree x y) refl h;
  values = λ y w h. values y w (same_tree x y) h;
  empty = λ y h. empty y (same_tree x y) refl h;
  single = single_more full p s.single (λ y a b m n. (two_args y a x v (insert_fact y a) (insert_fact x v) refl refl (only_member m)).1 ∙ sym (two_args y b x v (insert_fact y b) (insert_fact x v) refl refl (only_member n)).1);
}
  where
    p : List Fact
    p = insert_fact x v ∷ []

    held : (y w : Tree) (b : Bool) → same_tree x y ≡ b → cond b (Some v) (store y) ≡ Some w → Stored (full ++ (insert_fact x v ∷ []) ∷ []) y w
    held y w true t h =
        let key : x ≡ y = same_tree-sound x y t in
        let value : v ≡ w = cc in
        subst (λ z. Stored (full ++ (insert_fact x v ∷ []) ∷ []) z w) key (subst (λ z. Stored (full ++ (insert_fact x v ∷ []) ∷ []) x z) value (insert_stores full x v))
    held y w false t h = stored_kept full (insert_fact x v ∷ []) y w (λ m. differ (delete_fact y) (insert_fact x v) (only_member m) refl) (λ z m. other_insert x v y z t m) (s.held y w h)

    values : (y w : Tree) (b : Bool) → cond b (Some v) (store y) ≡ Some w → IsMessage g Msg w
    values y w true h = let value : v ≡ w = cc in subst (λ z. IsMessage g Msg z) value message
    values y w false h = s.values y w h

    empty : (y : Tree) (b : Bool) → same_tree x y ≡ b → cond b (Some v) (store y) ≡ None → NotSet (full ++ (insert_fact x v ∷ []) ∷ []) y
    empty y true t h = absurd (cc)
    empty y false t h = unset_kept full (insert_fact x v ∷ []) y (λ z m. other_insert x v y z t m) (s.empty y h)

pub store_delete : (g : Sig) (store : Tree → Option Tree) (full : Trace) (x : Tree) → StorePart g store full → StorePart g (stored store x None) (full ++ (delete_fact x ∷ []) ∷ [])
store_delete g store full x s = record {
  held = λ y w h. held y w (same_tree x y) refl h;
  values = λ y w h. values y w (same_tree x y) h;
  empty = λ y h. empty y (same_tree x y) refl h;
  single = single_more full (delete_fact x ∷ []) s.single (λ y a b m n. absurd (differ (insert_fact y a) (delete_fact x) (only_member m) refl));
}
  where
    held : (y w : Tree) (b : Bool) → same_tree x y ≡ b → cond b None (store y) ≡ Some w → Stored (full ++ (delete_fact x ∷ []) ∷ []) y w
    held y w true t h = absurd (cc)
    held y w false t h = stored_kept full (delete_fact x ∷ []) y w (λ m. other_delete x y t m) (λ z m. differ (insert_fact y z) (delete_fact x) (only_member m) refl) (s.held y w h)

    values : (y w : Tree) (b : Bool) → cond b None (store y) ≡ Some w → IsMessage g Msg w
    values y w true h = absurd (cc)
    values y w false h = s.values y w h

    empty : (y : Tree) (b : Bool) → same_tree x y ≡ b → cond b None (store y) ≡ None → NotSet (full ++ (delete_fact x ∷ []) ∷ []) y
    empty y true t h = subst (λ z. NotSet (full ++ (delete_fact x ∷ []) ∷ []) z) (same_tree-sound x y t) (delete_unsets full x)
    empty y false t h = unset_kept full (delete_fact x ∷ []) y (λ z m. differ (insert_fact y z) (delete_fact x) (only_member m) refl) (s.empty y h)

-- what a look-up that is admitted finds is what the store has
pub found_is : (g : Sig) (store : Tree → Option Tree) (full : Trace) (x v : Tree) → StorePart g store full → Stored full x v → store x ≡ Some v
found_is g store full x v s h = go (store x) refl
  where
    go : (o : Option Tree) → store x ≡ o → o ≡ Some v
    go None k = absurd (stored_not_unset full x v h (s.empty x k))
    go (Some w) k = ap (λ z. Some z) (stored_one full x w v (λ i a b m n. s.single i x a b m n) (s.held x w k) h)

pub missed_is : (g : Sig) (store : Tree → Option Tree) (full : Trace) (x : Tree) → StorePart g store full → NotSet full x → store x ≡ None
missed_is g store full x s h = go (store x) refl
  where
    go : (o : Option Tree) → store x ≡ o → o ≡ None
    go None k = refl
    go (Some w) k = absurd (stored_not_unset full x w (s.held x w k) h)
