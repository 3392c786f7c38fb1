-- Clauses of a contract that each hold for all parts that a call does not use, proved together and told apart by their names; and what it says of
-- the other parts.
pub both_said : {P Q : Type 0} → P × Q → record { answer : P; tx : Q }
both_said h = record { answer = h.0; tx = h.1 }

module _ {A O : Type 0} {P Q : A → Type 0} where
  pub with_others_of_one : ((x : A) → P x × Q x) → O → record { answer : (x : A) → P x; tx : (x : A) → Q x; others : O }
  with_others_of_one f o = record { answer = λ x. (f x).0; tx = λ x. (f x).1; others = o }

module _ {A B O : Type 0} {P Q : A → B → Type 0} where
  pub with_others : ((x : A) (y : B) → P x y × Q x y) → O → record { answer : (x : A) (y : B) → P x y; tx : (x : A) (y : B) → Q x y; others : O }
  with_others f o = record { answer = λ x y. (f x y).0; tx = λ x y. (f x y).1; others = o }

module _ {A B C O : Type 0} {P Q : A → B → C → Type 0} where
  pub with_others_of_three : ((x : A) (y : B) (z : C) → P x y z × Q x y z) → O → record { answer : (x : A) (y : B) (z : C) → P x y z; tx : (x : A) (y : B) (z : C) → Q x y z; others : O }
  with_others_of_three f o = record { answer = λ x y z. (f x y z).0; tx = λ x y z. (f x y z).1; others = o }

module _ {A B C O : Type 0} {P Q R : A → B → C → Type 0} where
  pub all_of_three : ((x : A) (y : B) (z : C) → P x y z × (Q x y z × R x y z)) → O → record { answer : (x : A) (y : B) (z : C) → P x y z; rx : (x : A) (y : B) (z : C) → Q x y z; buffer : (x : A) (y : B) (z : C) → R x y z; others : O }
  all_of_three f o = record { answer = λ x y z. (f x y z).0; rx = λ x y z. (f x y z).1.0; buffer = λ x y z. (f x y z).1.1; others = o }
