-- A form that is nothing, whatever it goes on as, is `0`.
use Rattle.std.proofs.Common.{◌≡◌, refl}
use Rattle.sap_process.specs.Proc.{Proc, nil}
use Rattle.sap_lines.specs.declared.form.Form.{Form}
use Rattle.sap_lines.specs.declared.form.Form.TheVariants.{Nil, Par, Rep, New, Out, Send, In, Recv, If, Event, Insert, Delete, Lookup, Lock, Unlock, Embedded}
use Rattle.sap_lines.specs.declared.place.Place.{Place}
use Rattle.sap_lines.specs.Places.{form_proc}

nothing : (f : Form) → form_proc f nil nil ≡ nil → f ≡ Nil
nothing Nil h = refl
nothing Par h = cc
nothing Rep h = cc
nothing (New x) h = cc
nothing (Out t) h = cc
nothing (Send t u) h = cc
nothing (In t) h = cc
nothing (Recv t u) h = cc
nothing (If t u) h = cc
nothing (Event f) h = cc
nothing (Insert t u) h = cc
nothing (Delete t) h = cc
nothing (Lookup t x) h = cc
nothing (Lock t n) h = cc
nothing (Unlock t n) h = cc
nothing (Embedded l e r) h = cc

pub leaf : (x : Place) → ((q r : Proc) → form_proc x.form q r ≡ nil) → x.form ≡ Nil
leaf x h = nothing x.form (h nil nil)
