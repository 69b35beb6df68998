-- What is said of one program holds of an equal one.
use Rattle.std.proofs.Common.{◌≡◌, ℕ, ◌+◌, ℤ, List, sym, subst}
use Rattle.std.specs.Prelude.{IsTrue, Option, IfSome}
use Rattle.dp_model.specs.Dp.{Dp, IsAllowed}
use Rattle.dp_model.specs.Gaps.{IsStateOf}
use Rattle.dp_model.specs.Fingerprints.{IsFingerprint}
use Rattle.dp_model.specs.declared.model.Extended.{Extended}
use Rattle.dp_model.specs.declared.model.Fingerprint.{Fingerprint}

pub test-on : {p q : Dp} → p ≡ q → (k : ℕ) (s : List ℤ) → IsTrue (q.is_state k s) → IsTrue (p.is_state k s)
test-on e k s h = subst (λ (r : Dp). IsTrue (r.is_state k s)) (sym e) h

pub state-on : {p q : Dp} → p ≡ q → (k : ℕ) (s : List ℤ) → IsStateOf q k s → IsStateOf p k s
state-on e k s h = subst (λ (r : Dp). IsStateOf r k s) (sym e) h

pub print-on : {p q : Dp} → p ≡ q → (k : ℕ) (s : List ℤ) (print : Fingerprint) → IsFingerprint q k s print → IsFingerprint p k s print
print-on e k s print h = subst (λ (r : Dp). IsFingerprint r k s print) (sym e) h

pub allowed-on : {p q : Dp} → p ≡ q → (k : ℕ) (s : List ℤ) (d : ℕ) → IsAllowed q k s d → IsAllowed p k s d
allowed-on e k s d h = subst (λ (r : Dp). IsAllowed r k s d) (sym e) h

pub extended-on : {p q : Dp} → p ≡ q → (k : ℕ) (s : List ℤ) (d : ℕ) (answer : Option Extended)
    → IfSome answer (λ x. (x.gain ≡ p.gain k s d) × (x.rank ≡ p.rank (k + 1) (p.step k s d)))
    → IfSome answer (λ x. (x.gain ≡ q.gain k s d) × (x.rank ≡ q.rank (k + 1) (q.step k s d)))
extended-on e k s d answer h = subst (λ (r : Dp). IfSome answer (λ x. (x.gain ≡ r.gain k s d) × (x.rank ≡ r.rank (k + 1) (r.step k s d)))) e h
