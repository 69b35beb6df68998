-- The texts of instances, with the first fault in reading order and its place.
use Rattle.std.specs.Prelude.{ℕ, zero, suc, ◌-◌, ◌^◌, ℤ, pos, negsuc, neg_ℤ, ◌+ℤ◌, Bool, true, false, ◌&&◌, nat_eq, ◌==◌, int_lt, int_le, nat_abs, List, [], ◌∷◌, length, codes, Option, Some, None, Result, Ok, Err, if◌then◌else◌}
use Rattle.std.specs.List.{starts_with}
use Rattle.tokens.specs.Text.{TextState, token, place_of, ends_line}
use Rattle.tokens.specs.declared.instance_error.InstanceError.{InstanceError}
use Rattle.tokens.specs.declared.instance_error.InstanceFault.{InstanceFault}
use Rattle.tokens.specs.Grammar.{number_then, word_then, part_then, times}
use Rattle.tokens.specs.declared.instance_error.InstanceFault.TheVariants.{Count, Limit, ThreeLiterals, Hard, Word}
use Rattle.max_two_sat.specs.declared.clause.Literal.{Literal}
use Rattle.max_two_sat.specs.declared.clause.Literals.{Literals}
use Rattle.max_two_sat.specs.declared.clause.Literals.TheVariants.{Empty, One, Two}
use Rattle.max_two_sat.specs.declared.header.Header.{Header}
use Rattle.max_two_sat.specs.declared.header.Form.{Form}
use Rattle.max_two_sat.specs.declared.header.Form.TheVariants.{Plain, Weighted}
use Rattle.max_two_sat.specs.Instance.{Instance}
use Rattle.max_two_sat.specs.Clauses.{Gathered, nothing_gathered, gathered_with}

abbrev pub fault_at : {B : Type 0} → InstanceFault → TextState → Result B InstanceError
fault_at fault s = Err (record { fault = fault; place = place_of s })

-- whether the word is the wanted one
abbrev pub is_word : List ℕ → List ℕ → Bool
is_word word wanted = (length word == length wanted) && starts_with nat_eq word wanted

-- the first line: p, then wcnf where clauses have weights or cnf where they have none, the variables, the clauses, and after wcnf perhaps a top weight

unfoldable pub letter_at : TextState → Result (Bool × TextState) InstanceError
letter_at s = word_then s (λ w t. if is_word w (codes "p") then Ok (true, t) else fault_at Word s)

unfoldable pub form_at : TextState → Result (Bool × TextState) InstanceError
form_at s = word_then s (λ w t.
    if is_word w (codes "wcnf") then Ok (true, t)
    else (if is_word w (codes "cnf") then Ok (false, t) else fault_at Word s))

unfoldable pub top_at : Bool → TextState → Result (Form × TextState) InstanceError
top_at weighted s =
    if weighted then (if ends_line s then Ok (Weighted None, s) else number_then (pos 1) (pos (2 ^ 63 - 1)) s (λ top t. Ok (Weighted (Some top), t)))
    else Ok (Plain, s)

unfoldable pub header_at : TextState → Result (Header × TextState) InstanceError
header_at s =
    part_then (letter_at s) (λ _ t.
    part_then (form_at t) (λ weighted u.
    number_then (pos 0) (pos 1024) u (λ n v.
    number_then (pos 0) (pos (2 ^ 20)) v (λ m w.
    part_then (top_at weighted w) (λ form x.
    Ok (record { variables = nat_abs n; clauses = nat_abs m; form = form }, x))))))

-- whether the clauses end here: at the end of the text, or at a token that begins with %
abbrev pub ends_token : List ℕ → Bool
ends_token [] = true
ends_token (b ∷ bs) = b == 37

abbrev pub ends_clauses : TextState → Bool
ends_clauses s = ends_token (token s)

-- the weight of a clause after clauses of this total weight: 1 where clauses have none

abbrev pub reaches : Option ℤ → ℤ → Bool
reaches None weight = false
reaches (Some top) weight = int_le top weight

unfoldable pub weight_at : Form → ℤ → TextState → Result (ℤ × TextState) InstanceError
weight_at Plain total s = Ok (pos 1, s)
weight_at (Weighted top) total s = number_then (pos 0) (pos (2 ^ 48)) s (λ w t.
    if reaches top w then fault_at Hard s
    else (if int_lt (pos (2 ^ 48)) (total +ℤ w) then fault_at Limit s else Ok (w, t)))

-- the literal that a number writes, and none for zero
abbrev pub literal_of : ℤ → Option Literal
literal_of (pos zero) = None
literal_of (pos (suc v)) = Some (record { variable = v; positive = true })
literal_of (negsuc v) = Some (record { variable = v; positive = false })

unfoldable pub literal_at : ℕ → TextState → Result (Option Literal × TextState) InstanceError
literal_at n s = number_then (neg_ℤ (pos n)) (pos n) s (λ z t. Ok (literal_of z, t))

-- at most two literals and a zero

abbrev pub no_literal : TextState → TextState → Option Literal → Result (Bool × TextState) InstanceError
no_literal third following None = Ok (true, following)
no_literal third following (Some c) = fault_at ThreeLiterals third

-- the zero after two literals
unfoldable pub end_of_clause : ℕ → TextState → Result (Bool × TextState) InstanceError
end_of_clause n s = part_then (literal_at n s) (λ third t. no_literal s t third)

abbrev pub second_literal : ℕ → Literal → TextState → Option Literal → Result (Literals × TextState) InstanceError
second_literal n a following None = Ok (One a, following)
second_literal n a following (Some b) = part_then (end_of_clause n following) (λ _ t. Ok (Two a b, t))

-- what stands after the first literal
unfoldable pub following_first : ℕ → Literal → TextState → Result (Literals × TextState) InstanceError
following_first n a s = part_then (literal_at n s) (λ second t. second_literal n a t second)

abbrev pub first_literal : ℕ → TextState → Option Literal → Result (Literals × TextState) InstanceError
first_literal n following None = Ok (Empty, following)
first_literal n following (Some a) = following_first n a following

unfoldable pub literals_at : ℕ → TextState → Result (Literals × TextState) InstanceError
literals_at n s = part_then (literal_at n s) (λ first t. first_literal n t first)

-- the next clause; that none stands there is a fault in the count
unfoldable pub clause_at : Header → Gathered → TextState → Result (Gathered × TextState) InstanceError
clause_at h g s =
    if ends_clauses s then fault_at Count s
    else part_then (weight_at h.form g.total s) (λ w t. part_then (literals_at h.variables t) (λ literals u. Ok (gathered_with g w literals, u)))

-- the clauses end here, or the count is wrong
abbrev pub ended_at : {B : Type 0} → TextState → B → Result B InstanceError
ended_at s outcome = if ends_clauses s then Ok outcome else fault_at Count s

-- an instance: the first line and the clauses that it counts
unfoldable pub instance_at : TextState → Result Instance InstanceError
instance_at s =
    part_then (header_at s) (λ h t.
    part_then (times (clause_at h) h.clauses (nothing_gathered h.variables) t) (λ g u.
    ended_at u g.instance))
