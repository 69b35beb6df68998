-- Rows that are put into a region.
use Rattle.std.proofs.Common.{◌≡◌, ℕ, zero, suc, ◌+◌, ◌≤◌, ℤ, List, [], ◌∷◌, ◌++◌, length, map, take, slice_get, Some, option_map, refl, sym, ◌∙◌, ap, subst, arith, append_assoc, append-nil}
use Rattle.std.proofs.lemmas.List.{length-append, length-map}
use Rattle.std.proofs.lemmas.Option.{none-some, same_Some}
use Rattle.dp_laws.specs.Diagrams.Nodes.{DdNode, DdLayers, node_at}
use Rattle.relaxed_dd.specs.Shown.{layer_in}
use Rattle.row_region.specs.Region.{RegionView, HasPut}
use Rattle.row_region.specs.declared.region.RowId.{RowId}
use Rattle.row_region.proofs.Callers.{put_row, put_others}
use Rattle.cover_pages.specs.Pages.{CanKeep, row_of}
use Rattle.cover_pages.specs.Sizes.{nodes_of}
use Rattle.cover_pages.specs.Stored.{rows_of, HoldRows, HasPutRows, Keeps}
use Rattle.cover_pages.proofs.Lists.{mapped, node-has, node-more}

hold-push : (old new : RegionView) (was : List RowId) (before : List (List ℤ)) (id : RowId) (row : List ℤ) → Keeps old new → slice_get new.rows id.place ≡ Some (Some row) → HoldRows old was before → HoldRows new (was ++ id ∷ []) (before ++ row ∷ [])
hold-push old new [] [] id row keeps there h = (there, tt)
hold-push old new [] (b ∷ bs) id row keeps there h = absurd h
hold-push old new (w ∷ ws) [] id row keeps there h = absurd h
hold-push old new (w ∷ ws) (b ∷ bs) id row keeps there h = (keeps w.place b h.0, hold-push old new ws bs id row keeps there h.1)

pub put-none : (r : RegionView) (ids : List RowId) → HasPutRows r ids [] r ids
put-none r ids = record {
  words = refl;
  keeps = λ place row e. e;
  spare = omega arith;
  many = omega arith;
  holds = λ before h. subst (HoldRows r ids) (sym (append-nil before)) h;
}

pub put-one : (old new : RegionView) (was ids : List RowId) (id : RowId) (row : List ℤ) → HasPut old id.place row new → length row ≡ old.words → ids ≡ was ++ id ∷ [] → HasPutRows old was (row ∷ []) new ids
put-one old new was ids id row put long is =
    let keeps : Keeps old new = λ q other e. put_others old new id.place q row other put e in
    let there = (put_row old new id.place row put long).found in
    let more = length-append was (id ∷ []) in
    let same = ap (λ (l : List RowId). length l) is in
    record {
      words = put.words;
      keeps = keeps;
      spare = put.spare;
      many = omega arith;
      holds = λ before h. subst (λ (l : List RowId). HoldRows new l (before ++ row ∷ [])) (sym is) (hold-push old new was before id row keeps there h);
    }

pub put-then : (old mid new : RegionView) (was ids more : List RowId) (a b : List (List ℤ)) → HasPutRows old was a mid ids → HasPutRows mid ids b new more → HasPutRows old was (a ++ b) new more
put-then old mid new was ids more a b first second =
    let long = length-append a b in
    record {
      words = second.words ∙ first.words;
      keeps = λ place row e. second.keeps place row (first.keeps place row e);
      spare = (let x = first.spare in let y = second.spare in omega arith);
      many = (let x = first.many in let y = second.many in omega arith);
      holds = λ before h. subst (HoldRows new more) (append_assoc before a b) (second.holds (before ++ a) (first.holds before h));
    }

rows-after : (ls : List (List DdNode)) (i : ℕ) (l : List DdNode) → slice_get ls i ≡ Some l → rows_of (take (suc i) ls) ≡ rows_of (take i ls) ++ map row_of l
rows-after [] i l e = absurd (none-some l e)
rows-after (m ∷ ms) zero l e = append-nil (map row_of m) ∙ ap (map row_of) (same_Some m l e)
rows-after (m ∷ ms) (suc i) l e = ap (λ r. map row_of m ++ r) (rows-after ms i l e) ∙ sym (append_assoc (map row_of m) (rows_of (take i ms)) (map row_of l))

pub rows-next : (ls : List (List DdNode)) (i : ℕ) (l : List DdNode) → slice_get ls i ≡ Some l → rows_of (take (i + 1) ls) ≡ rows_of (take i ls) ++ map row_of l
rows-next ls i l e = let next : i + 1 ≡ suc i = omega arith in ap (λ n. rows_of (take n ls)) next ∙ rows-after ls i l e

pub rows-long : (ls : List (List DdNode)) → length (rows_of ls) ≡ nodes_of ls
rows-long [] = refl
rows-long (l ∷ ls) = let a = length-append (map row_of l) (rows_of ls) in let b = length-map l row_of in let c = rows-long ls in omega arith

-- the layers so far and one more have no more nodes than all
pub nodes-most : (ls : List (List DdNode)) (i : ℕ) (l : List DdNode) → slice_get ls i ≡ Some l → nodes_of (take i ls) + length l ≤ nodes_of ls
nodes-most [] i l e = absurd (none-some l e)
nodes-most (m ∷ ms) zero l e = let same = ap (λ (x : List DdNode). length x) (same_Some m l e) in omega arith
nodes-most (m ∷ ms) (suc i) l e = let rest = nodes-most ms i l e in omega arith

-- the row of a node has as many cells as it should
pub cells-at : (words : ℕ) (d : DdLayers) (depth i : ℕ) (row : List ℤ) → CanKeep words d → option_map row_of (node_at d depth i) ≡ Some row → length row ≡ words
cells-at words d depth i row keep e =
    let m = mapped row_of (node_at d depth i) row e in
    ap (λ (r : List ℤ). length r) (sym m.2) ∙ node-has (λ (n : DdNode). length n.row ≡ words) d depth i m.0 m.1 keep.cells

-- one node more
pub put-node : (d : DdLayers) (depth i : ℕ) (row : List ℤ) (old mid new : RegionView) (was ids more : List RowId) → option_map row_of (node_at d depth i) ≡ Some row → HasPutRows old was (map row_of (take i (layer_in d depth))) mid ids → HasPutRows mid ids (row ∷ []) new more
    → HasPutRows old was (map row_of (take (i + 1) (layer_in d depth))) new more
put-node d depth i row old mid new was ids more is first second =
    subst (λ (rows : List (List ℤ)). HasPutRows old was rows new more) (node-more row_of d depth i row (map row_of (take i (layer_in d depth))) (map row_of (take i (layer_in d depth)) ++ row ∷ []) is refl refl)
    (put-then old mid new was ids more (map row_of (take i (layer_in d depth))) (row ∷ []) first second)

-- and one layer more
pub put-layer : (ls : List (List DdNode)) (i : ℕ) (l : List DdNode) (old mid new : RegionView) (was ids more : List RowId) → slice_get ls i ≡ Some l → HasPutRows old was (rows_of (take i ls)) mid ids → HasPutRows mid ids (map row_of l) new more
    → HasPutRows old was (rows_of (take (i + 1) ls)) new more
put-layer ls i l old mid new was ids more at first second =
    subst (λ (rows : List (List ℤ)). HasPutRows old was rows new more) (sym (rows-next ls i l at)) (put-then old mid new was ids more (rows_of (take i ls)) (map row_of l) first second)
