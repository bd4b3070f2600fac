-- A sheet that follows another by one of the six changes is in order with it.
use Rattle.std.proofs.Common.{◌≡◌, ℕ, ◌+◌, ◌-◌, ◌≤◌, true, ◌&&◌, ◌||◌, List, ◌∷◌, ◌++◌, Some, sym, ap, subst, arith}
use Rattle.std.proofs.lemmas.List.Sums.{sum_by-append}
use Rattle.std.proofs.lemmas.Bool.{and_from, or_left, or_right, le-leb}
use Rattle.sheet.specs.declared.types.Payment.{Payment}
use Rattle.sheet.specs.Contents.{Content}
use Rattle.change.specs.declared.types.Change.{Change}
use Rattle.change.specs.declared.types.Change.TheVariants.{Offered, PassingOn, Paying, Getting, Returned, GivingUp}
use Rattle.change.specs.Follows.{AddedTo, TakenOff, Follows}
use Rattle.change.specs.Totals.{amounts}
use Rattle.counting.specs.Orders.{is_part, is_beside, is_below, in_order}
use Rattle.counting.proofs.Parts.{amounts_cons, self_part, more_part, less_part}

-- a list as it was, with one more, with one less
pub record Side (ps qs : List Payment) (more less : ℕ) : Type 0 where
  pub beside : is_beside ps qs ≡ true
  pub sum : amounts qs + less ≡ amounts ps + more

same_side : {ps qs : List Payment} → qs ≡ ps → Side ps qs 0 0
same_side {ps} {qs} e =
    record {
      beside = subst (λ (zs : List Payment). is_beside ps zs ≡ true) (sym e) (or_left (is_part ps ps) (is_part ps ps) (self_part ps));
      sum = omega (arith, ap amounts e);
    }

added_side : {p : Payment} {ps qs : List Payment} {from left : ℕ} → AddedTo p ps qs from left → Side ps qs p.amount 0
added_side {p} {ps} {qs} r =
    record {
      beside = subst (λ (zs : List Payment). is_beside ps zs ≡ true) (sym r.list) (or_left (is_part ps (p ∷ ps)) (is_part (p ∷ ps) ps) (more_part p ps));
      sum = omega (arith, ap amounts r.list, amounts_cons p ps);
    }

taken_side : {lock : List ℕ} {ps qs : List Payment} {to more : ℕ} (r : TakenOff lock ps qs to more) → Side ps qs 0 r.payment.amount
taken_side {lock} {ps} {qs} r =
    record {
      beside =
          subst (λ (zs : List Payment). is_beside zs qs ≡ true) (sym r.stands)
          (subst (λ (zs : List Payment). is_beside (r.front ++ r.payment ∷ r.back) zs ≡ true) (sym r.others)
          (or_right (is_part (r.front ++ r.payment ∷ r.back) (r.front ++ r.back)) (is_part (r.front ++ r.back) (r.front ++ r.payment ∷ r.back))
          (less_part r.front r.payment r.back)));
      sum =
          omega (
            arith,
            ap amounts r.stands,
            ap amounts r.others,
            sum_by-append (λ (q : Payment). q.amount) r.front r.back,
            sum_by-append (λ (q : Payment). q.amount) r.front (r.payment ∷ r.back),
            amounts_cons r.payment r.back,
          );
    }

module _ (held s : Content) {a b c d : ℕ} (ins : Side held.ins s.ins a b) (outs : Side held.outs s.outs c d) where
  sides : (is_beside held.ins s.ins && is_beside held.outs s.outs) ≡ true
  sides = and_from (is_beside held.ins s.ins) (is_beside held.outs s.outs) ins.beside outs.beside

  next_below : s.own + (amounts s.ins - amounts held.ins) + (amounts s.outs - amounts held.outs) ≤ held.own → in_order held (Some s) ≡ true
  next_below h =
      and_from (is_beside held.ins s.ins && is_beside held.outs s.outs) (is_below s held || is_below held s) sides
      (or_left (is_below s held) (is_below held s) (le-leb _ _ h))

  held_below : held.own + (amounts held.ins - amounts s.ins) + (amounts held.outs - amounts s.outs) ≤ s.own → in_order held (Some s) ≡ true
  held_below h =
      and_from (is_beside held.ins s.ins && is_beside held.outs s.outs) (is_below s held || is_below held s) sides
      (or_right (is_below s held) (is_below held s) (le-leb _ _ h))

pub follows_in_order : (held : Content) (c : Change) (p : Payment) (s : Content) → Follows held c p s → in_order held (Some s) ≡ true
follows_in_order held Offered p s h =
    let i = added_side h.1 in let o = same_side h.3 in held_below held s i o (omega (arith, i.sum, o.sum, h.2))
follows_in_order held PassingOn p s h =
    let i = same_side h.3 in let o = added_side h.1 in next_below held s i o (omega (arith, i.sum, o.sum, h.1.covered))
follows_in_order held Paying p s h =
    let i = same_side h.3 in let o = taken_side h.1 in next_below held s i o (omega (arith, i.sum, o.sum, h.2))
follows_in_order held Getting p s h =
    let i = taken_side h.1 in let o = same_side h.3 in held_below held s i o (omega (arith, i.sum, o.sum, h.1.gets))
follows_in_order held Returned p s h =
    let i = same_side h.3 in let o = taken_side h.1 in held_below held s i o (omega (arith, i.sum, o.sum, h.1.gets))
follows_in_order held GivingUp p s h =
    let i = taken_side h.1 in let o = same_side h.3 in next_below held s i o (omega (arith, i.sum, o.sum, h.2))
