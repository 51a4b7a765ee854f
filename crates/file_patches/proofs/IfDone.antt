-- What holds of a value that is made in steps, where it is made.
use Rattle.std.proofs.Common.{Result, Ok, Err, IfOk}
use Rattle.file_patches.specs.Results.{and_then, on_ok}

pub if_then : {A B E : Type 0} (Q : A → Type 0) (P : B → Type 0) (f : A → Result B E) (r : Result A E) → IfOk r Q → ((a : A) → Q a → IfOk (f a) P) → IfOk (and_then f r) P
if_then Q P f (Ok a) h k = k a h
if_then Q P f (Err e) h k = tt

pub if_on : {A B E : Type 0} (Q : A → Type 0) (P : B → Type 0) (f : A → B) (r : Result A E) → IfOk r Q → ((a : A) → Q a → P (f a)) → IfOk (on_ok f r) P
if_on Q P f (Ok a) h k = k a h
if_on Q P f (Err e) h k = tt

-- the same, where nothing is known of the first value
pub any_then : {A B E : Type 0} (P : B → Type 0) (f : A → Result B E) (r : Result A E) → ((a : A) → IfOk (f a) P) → IfOk (and_then f r) P
any_then P f (Ok a) k = k a
any_then P f (Err e) k = tt

pub any_on : {A B E : Type 0} (P : B → Type 0) (f : A → B) (r : Result A E) → ((a : A) → P (f a)) → IfOk (on_ok f r) P
any_on P f (Ok a) k = k a
any_on P f (Err e) k = tt
