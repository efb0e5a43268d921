-- What is told of a place and of its use; one text is told of a cause whose place is defined.
use Rattle.std.proofs.Common.{◌≡◌, ◌<◌, ℕ, zero, suc, ◌+◌, ◌-◌, List, [], ◌∷◌, ◌++◌, length, take, refl, sym, ap, subst, ◌∙◌, append_assoc, arith}
use Rattle.std.proofs.lemmas.List.{append-nil, take_all, take_more}
use Rattle.std.specs.Prelude.{codes, decimal, OnOk, Result, Ok, Err, slice_index_or}
use Rattle.sap_read.specs.declared.fault.ReadFault.{ReadFault}
use Rattle.sap_stretches.specs.declared.position.Position.{Position}
use Rattle.sap_stretches.specs.declared.stretch.Stretch.{Stretch}
use Rattle.sap_read_places.specs.declared.told.Told.{Told}
use Rattle.sap_explain.specs.BytesIn.{bytes_in}
use Rattle.sap_explain.specs.Explained.{IsUseText, AreUseTexts, no_use, a_use, AreUsesTold, more_text, IsPlaceTold, somewhere, nowhere}
use Rattle.sap_explain.specs.Cures.{IsAdvice}
use Rattle.sap_stretches.specs.Positions.{IsPosition, IsPlaceText}
use Rattle.sap_explain.specs.Told.{IsPlaceOf}

-- what is told of a use
pub use_is : {A E : Type 0} (z old mid new : List ℕ) (u : Stretch) (p : Position) (r : Result A E) → IsPosition z u.from p → mid ≡ old ++ (codes "in " ++ bytes_in z u)
    → OnOk r (new ≡ mid ++ (codes ", used at line " ++ (decimal p.line ++ (10 ∷ [])))) → OnOk r ((t : List ℕ) × (new ≡ old ++ t) × IsUseText z u t)
use_is z old mid new u p (Ok v) at name line =
    let rest = codes ", used at line " ++ (decimal p.line ++ (10 ∷ [])) in
    (_, line ∙ ap (λ (m : List ℕ). m ++ rest) name ∙ append_assoc old (codes "in " ++ bytes_in z u) rest, record { position = p; is_position = at; text = refl })
use_is z old mid new u p (Err m) at name line = tt

-- behind the texts of uses comes that of one more
use_more : {z : List ℕ} {us : List Stretch} {t x : List ℕ} (u : Stretch) → AreUseTexts z us t → IsUseText z u x → AreUseTexts z (us ++ u ∷ []) (t ++ x)
use_more {z = z} {x = x} u no_use is = subst (λ (y : List ℕ). AreUseTexts z (u ∷ []) y) (append-nil x) (a_use is no_use)
use_more {z = z} {us = v ∷ us} {x = x} u (a_use {t = a} {rest = b} first more) is =
    subst (λ (y : List ℕ). AreUseTexts z (v ∷ (us ++ u ∷ [])) y) (sym (append_assoc a b x)) (a_use first (use_more u more is))

-- the texts of so many uses come last
abbrev pub HasUses : List ℕ → List ℕ → List ℕ → List Stretch → Type 0
HasUses z old new us = (t : List ℕ) × (new ≡ old ++ t) × AreUseTexts z us t

pub no_uses : (z old : List ℕ) → HasUses z old old []
no_uses z old = ([], sym (append-nil old), no_use)

pub uses_more : (z old mid new : List ℕ) (us : List Stretch) (k : ℕ) (d : Stretch) → k < length us → HasUses z old mid (take k us)
    → (x : List ℕ) × (new ≡ mid ++ x) × IsUseText z (slice_index_or us k d) x → HasUses z old new (take (k + 1) us)
uses_more z old mid new us k d lt h more =
    subst (λ (vs : List Stretch). HasUses z old new vs) (sym (take_more us k d lt))
    (h.0 ++ more.0, more.1 ∙ ap (λ (m : List ℕ). m ++ more.0) h.1 ∙ append_assoc old h.0 more.0, use_more (slice_index_or us k d) h.2 more.2)

take_whole : (us : List Stretch) (k : ℕ) → k ≡ length us → take k us ≡ us
take_whole us k all = take_all k us (omega (arith, all))

pub all_uses : (z old new : List ℕ) (us : List Stretch) (k : ℕ) → k ≡ length us → HasUses z old new (take k us) → HasUses z old new us
all_uses z old new us k all h = subst (λ (vs : List Stretch). HasUses z old new vs) (take_whole us k all) h

-- how many more there are is told
pub more_is : (n : ℕ) → 0 < n → codes "and " ++ (decimal n ++ codes " more\n") ≡ more_text n
more_is zero lt = absurd (omega (arith, lt))
more_is (suc n) lt = refl

-- what is told of uses
pub uses_are : {A E : Type 0} (z old mid new : List ℕ) (us : List Stretch) (r : Result A E) → HasUses z old mid (take 8 us) → OnOk r (new ≡ mid ++ more_text (length us - 8))
    → OnOk r ((t : List ℕ) × (new ≡ old ++ t) × AreUsesTold z us t)
uses_are z old mid new us (Ok v) h more =
    let rest = more_text (length us - 8) in
    (h.0 ++ rest, more ∙ ap (λ (m : List ℕ). m ++ rest) h.1 ∙ append_assoc old h.0 rest, record { texts = h.0; are = h.2; text = refl })
uses_are z old mid new us (Err m) h more = tt

-- what is told of a place and its uses, and of none
pub told_is : {A E : Type 0} (z old mid new : List ℕ) (e : ReadFault) (t : Told) (r : Result A E) → IsPlaceOf z e t → (x : List ℕ) × (mid ≡ old ++ x) × IsPlaceText z t.word x
    → OnOk r ((y : List ℕ) × (new ≡ mid ++ y) × AreUsesTold z t.uses y) → OnOk r ((y : List ℕ) × (new ≡ old ++ y) × IsPlaceTold z e y)
told_is z old mid new e t (Ok v) told x y =
    (x.0 ++ y.0, y.1 ∙ ap (λ (m : List ℕ). m ++ y.0) x.1 ∙ append_assoc old x.0 y.0, somewhere told x.2 y.2)
told_is z old mid new e t (Err m) told x y = tt

pub none_told_is : (z old : List ℕ) (e : ReadFault) → ((t : Told) → IsPlaceOf z e t → ⊥) → (t : List ℕ) × (old ≡ old ++ t) × IsPlaceTold z e t
none_told_is z old e none = ([], sym (append-nil old), nowhere none)

-- an offset has one line and one column
abbrev pub OnePosition : Type 0
OnePosition = (z : List ℕ) (at : ℕ) (p q : Position) → IsPosition z at p → IsPosition z at q → p ≡ q

-- of uses one text is told
pub one_use_text : OnePosition → (z : List ℕ) (u : Stretch) (t x : List ℕ) → IsUseText z u t → IsUseText z u x → t ≡ x
one_use_text one z u t x a b =
    a.text ∙ ap (λ (p : Position). (codes "in " ++ bytes_in z u) ++ (codes ", used at line " ++ (decimal p.line ++ (10 ∷ [])))) (one z u.from a.position b.position a.is_position b.is_position)
    ∙ sym b.text

one_use_texts : OnePosition → (z : List ℕ) (us : List Stretch) (t x : List ℕ) → AreUseTexts z us t → AreUseTexts z us x → t ≡ x
one_use_texts one z _ _ _ no_use no_use = refl
one_use_texts one z _ _ _ (a_use {u = u} {us = us} {t = a} {rest = b} first more) (a_use {t = c} {rest = d} other rest) =
    let texts : a ≡ c = one_use_text one z u a c first other in
    let behind : b ≡ d = one_use_texts one z us b d more rest in
    λ i. texts i ++ behind i

pub one_uses_text : OnePosition → (z : List ℕ) (us vs : List Stretch) (t x : List ℕ) → us ≡ vs → AreUsesTold z us t → AreUsesTold z vs x → t ≡ x
one_uses_text one z us vs t x same a b =
    let also : AreUsesTold z us x = subst (λ (ws : List Stretch). AreUsesTold z ws x) (sym same) b in
    a.text ∙ ap (λ (y : List ℕ). y ++ more_text (length us - 8)) (one_use_texts one z (take 8 us) a.texts also.texts a.are also.are) ∙ sym also.text

abbrev pub OnePlace : Type 0
OnePlace = (z : List ℕ) (e : ReadFault) (s t : Told) → IsPlaceOf z e s → IsPlaceOf z e t → s ≡ t

abbrev pub OneText : Type 0
OneText = (z : List ℕ) (s : Stretch) (t u : List ℕ) → IsPlaceText z s t → IsPlaceText z s u → t ≡ u

module _ (one : OnePlace) (one_position : OnePosition) (one_text : OneText) (z : List ℕ) (e : ReadFault) where
  pub same_told : (x y : List ℕ) → IsPlaceTold z e x → IsPlaceTold z e y → x ≡ y
  same_told _ _ (somewhere {t = t} {place = a} {user = b} told text said) (somewhere {t = u} {place = c} {user = d} other text' said') =
      let same : t ≡ u = one z e t u told other in
      let texts : a ≡ c = one_text z u.word a c (subst (λ (v : Told). IsPlaceText z v.word a) same text) text' in
      let users : b ≡ d = one_uses_text one_position z t.uses u.uses b d (ap (λ (v : Told). v.uses) same) said said' in
      λ i. texts i ++ users i
  same_told _ _ (somewhere {t = t} told text said) (nowhere none_at) = absurd (none_at t told)
  same_told _ _ (nowhere none_at) (somewhere {t = t} told text said) = absurd (none_at t told)
  same_told _ _ (nowhere none_at) (nowhere none_too) = refl

-- what is told of what to change
pub advice_is : {A E : Type 0} (z old new : List ℕ) (e : ReadFault) (t : List ℕ) (r : Result A E) → IsAdvice z e t → OnOk r (new ≡ old ++ (t ++ (10 ∷ [])))
    → OnOk r ((u : List ℕ) × (new ≡ old ++ (u ++ (10 ∷ []))) × IsAdvice z e u)
advice_is z old new e t (Ok v) is put = (t, put, is)
advice_is z old new e t (Err m) is put = tt
