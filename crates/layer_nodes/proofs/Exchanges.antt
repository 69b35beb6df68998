-- Rows that stand in a region while others are given back and taken.
use Rattle.std.proofs.Common.{◌≡◌, ◌≢◌, ℕ, ◌+◌, ℤ, List, [], ◌∷◌, ◌++◌, length, take, drop, set, None, sym, ◌∙◌, ap, subst, append-nil, take-append-drop}
use Rattle.std.proofs.lemmas.List.{map-append}
use Rattle.dp_model.proofs.Members.{Each-append}
use Rattle.dp_laws.specs.Pairs.{EachTwo}
use Rattle.layer_candidates.specs.HeldRows.{AreLive, AreSame, HasExchanged}
use Rattle.layer_candidates.proofs.HeldRows.{each-left, each-right, exchange-beside, exchange-put, given-same, exchange-give}
use Rattle.row_region.specs.Region.{RegionView, IsLive, IsRow, HasPut}
use Rattle.layer_nodes.specs.declared.node.Node.{Node}
use Rattle.layer_nodes.specs.Holding.{HaveRows}
use Rattle.layer_nodes.specs.Stored.{rows_in}

-- rows that stand as they did
pub rows-same : (old new : RegionView) (row : ℕ → List ℤ) (places : List ℕ) → new.words ≡ old.words → AreSame old new places → HaveRows old row places → HaveRows new row places
rows-same old new row [] words same have = tt
rows-same old new row (p ∷ places) words same have = (record { found = same.0 ∙ have.0.found; size = have.0.size ∙ sym words }, rows-same old new row places words same.1 have.1)

two-right : (xs ys : List ℕ) → EachTwo (λ (a b : ℕ). a ≢ b) (xs ++ ys) → EachTwo (λ (a b : ℕ). a ≢ b) ys
two-right [] ys h = h
two-right (x ∷ xs) ys h = two-right xs ys h.1

pub live-right : (region : RegionView) (front following : List ℕ) → AreLive region (front ++ following) → AreLive region following
live-right region front following h = record { live = each-right (IsLive region) front following h.live; apart = two-right front following h.apart }

-- only the first nodes stay
module _ (old new : RegionView) (nodes : List Node) (width : ℕ) (live : AreLive old (rows_in nodes)) where
  abbrev front : List ℕ
  front = rows_in (take width nodes)

  abbrev following : List ℕ
  following = rows_in (drop width nodes)

  parts : rows_in nodes ≡ front ++ following
  parts = sym (ap rows_in (take-append-drop width nodes)) ∙ map-append (λ (node : Node). node.row) (take width nodes) (drop width nodes)

  both : AreLive old (front ++ following)
  both = subst (AreLive old) parts live

  pub following-live : AreLive old following
  following-live = live-right old front following both

  pub first-exchanged : HasExchanged old following new [] → HasExchanged old (rows_in nodes) new front
  first-exchanged given =
      subst (λ l. HasExchanged old l new front) (sym parts) (subst (HasExchanged old (front ++ following) new) (append-nil front) (exchange-beside old new following [] given front both).0)

  pub first-rows : (row : ℕ → List ℤ) → HasExchanged old following new [] → HaveRows old row (rows_in nodes) → HaveRows new row front
  first-rows row given have =
      rows-same old new row front given.words (exchange-beside old new following [] given front both).1 (each-left (λ (p : ℕ). IsRow old p (row p)) front following (subst (HaveRows old row) parts have))

-- one row among others is given back
module _ (old new : RegionView) (front rest : List ℕ) (p : ℕ) (live : AreLive old (front ++ p ∷ rest)) (given : new ≡ record old { rows = set old.rows p None; spare = old.spare + 1 }) where
  whole : HasExchanged old (front ++ p ∷ rest) new (front ++ rest) × AreSame old new front
  whole = exchange-beside old new (p ∷ rest) rest (exchange-give old new p given rest (live-right old front (p ∷ rest) live)) front live

  pub exchange-one : HasExchanged old (front ++ p ∷ rest) new (front ++ rest)
  exchange-one = whole.0

  pub rows-but-one : (row : ℕ → List ℤ) → HaveRows old row (front ++ rest) → HaveRows new row (front ++ rest)
  rows-but-one row have =
      let here = live-right old front (p ∷ rest) live in
      rows-same old new row (front ++ rest) whole.0.words
      (Each-append _ front rest whole.1 (given-same old new p given rest here.apart.0 here.live.1)) have

-- one row more stands after the others
pub exchange-push : (old new : RegionView) (places : List ℕ) (p : ℕ) (row : List ℤ) → AreLive old places → HasPut old p row new → length row ≡ old.words → HasExchanged old places new (places ++ p ∷ [])
exchange-push old new places p row live put long =
    subst (λ l. HasExchanged old l new (places ++ p ∷ [])) (append-nil places)
    (exchange-beside old new [] (p ∷ []) (exchange-put old new p row put long [] (record { live = tt; apart = tt })) places (subst (AreLive old) (sym (append-nil places)) live)).0
