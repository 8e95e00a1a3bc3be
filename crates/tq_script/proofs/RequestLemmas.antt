-- Words that are of a verb's row ask for something.
use Rattle.std.proofs.Common.{◌≡◌, ◌≤◌, ℕ, List, [], ◌∷◌, Option, Some, None, refl, rules, arith}
use Rattle.std.specs.Option.{IsSome, option_map}
use Rattle.tq_model.specs.declared.grammar.Key.{Key}
use Rattle.tq_model.specs.declared.grammar.Key.TheVariants as keys
use Rattle.tq_model.specs.declared.grammar.Kind.TheVariants as kinds
use Rattle.tq_model.specs.declared.grammar.Value.{Value}
use Rattle.tq_model.specs.declared.grammar.Value.TheVariants.{Number, Name, ErrorName, Text, Flags, Yes}
use Rattle.tq_model.specs.declared.grammar.Verb.{Verb}
use Rattle.tq_model.specs.declared.grammar.Verb.TheVariants.{Boot, CreateDevice, EraseDevice, ListDevice, CreateSpace, RemoveSpace, CreateQueue, Enqueue, Dequeue}
use Rattle.tq_model.specs.Grammar.{Given, and_then, error_in, flags_in, needed, number_in, optional, optional_number_in, request_of, row_of, space_creation, space_keys, text_in, yes_in}
use Rattle.tq_script.specs.Kinds.{AreOfKinds, IsOfRow, AreOfRows}

-- where a value is there, so is what it is made into
and_then-some : {X Y : Type 0} (o : Option X) (rest : X → Option Y) → IsSome o → ((x : X) → IsSome (rest x)) → IsSome (and_then o rest)
and_then-some None rest is then = is
and_then-some (Some x) rest is then = then x

mapped-some : {X Y : Type 0} (f : X → Y) (o : Option X) → IsSome o → IsSome (option_map f o)
mapped-some f None is = is
mapped-some f (Some x) is = refl

-- what stands in the value of a key, where its row asks for that
device_in-some : (key : Key) (o : Option Value) → IsOfRow (Some (needed key kinds.Device)) o → IsSome (number_in o)
device_in-some key (Some (Number n)) is = refl
device_in-some key _ is = absurd (search rules)

number_in-some : (key : Key) (o : Option Value) → IsOfRow (Some (needed key kinds.Number)) o → IsSome (number_in o)
number_in-some key (Some (Number n)) is = refl
number_in-some key _ is = absurd (search rules)

optional_number_in-some : (key : Key) (o : Option Value) → IsOfRow (Some (optional key kinds.Number)) o → IsSome (optional_number_in o)
optional_number_in-some key None is = refl
optional_number_in-some key (Some (Number n)) is = refl
optional_number_in-some key _ is = absurd (search rules)

error_in-some : (key : Key) (o : Option Value) → IsOfRow (Some (needed key kinds.ErrorName)) o → IsSome (error_in o)
error_in-some key (Some (ErrorName name)) is = refl
error_in-some key _ is = absurd (search rules)

text_in-some : (key : Key) (o : Option Value) → IsOfRow (Some (needed key kinds.Text)) o → IsSome (text_in o)
text_in-some key (Some (Text bytes)) is = refl
text_in-some key _ is = absurd (search rules)

flags_in-some : (key : Key) (o : Option Value) → IsOfRow (Some (optional key kinds.Flags)) o → IsSome (flags_in o)
flags_in-some key None is = refl
flags_in-some key (Some (Flags flags)) is = refl
flags_in-some key _ is = absurd (search rules)

yes_in-some : (key : Key) (o : Option Value) → IsOfRow (Some (optional key kinds.Yes)) o → IsSome (yes_in o)
yes_in-some key None is = refl
yes_in-some key (Some Yes) is = refl
yes_in-some key _ is = absurd (search rules)

space_creation-some : (name : List ℕ) (given : List Given) → AreOfRows space_keys given → IsSome (space_creation name given)
space_creation-some name given are =
    and_then-some _ _ (device_in-some keys.Dev _ (are keys.Dev)) (λ dev.
    and_then-some _ _ (number_in-some keys.Pages _ (are keys.Pages)) (λ pages.
    and_then-some _ _ (number_in-some keys.Queues _ (are keys.Queues)) (λ queues.
    and_then-some _ _ (number_in-some keys.Transactions _ (are keys.Transactions)) (λ transactions.
    and_then-some _ _ (number_in-some keys.Messages _ (are keys.Messages)) (λ messages.
    and_then-some _ _ (error_in-some keys.Error _ (are keys.Error)) (λ error.
    and_then-some _ _ (number_in-some keys.Memory _ (are keys.Memory)) (λ memory. refl)))))))

pub request_exists : (verb : Verb) (values : List Value) (given : List Given) → AreOfKinds (row_of verb).positional values → AreOfRows (row_of verb).keyed given → IsSome (request_of verb values given)
request_exists Boot [] given of_kinds of_rows = refl
request_exists CreateDevice (Number dev ∷ Number clusters ∷ []) given of_kinds of_rows =
    mapped-some _ _ (mapped-some _ _ (optional_number_in-some keys.Site _ (of_rows keys.Site)))
request_exists EraseDevice (Number dev ∷ []) given of_kinds of_rows = refl
request_exists ListDevice (Number dev ∷ []) given of_kinds of_rows = refl
request_exists CreateSpace (Name name ∷ []) given of_kinds of_rows = mapped-some _ _ (space_creation-some name given of_rows)
request_exists RemoveSpace (Name space ∷ []) given of_kinds of_rows = mapped-some _ _ (mapped-some _ _ (yes_in-some keys.Force _ (of_rows keys.Force)))
request_exists CreateQueue (Name space ∷ Name queue ∷ []) given of_kinds of_rows = refl
request_exists Enqueue (Number session ∷ Name space ∷ Name queue ∷ []) given of_kinds of_rows =
    mapped-some _ _ (and_then-some _ _ (flags_in-some keys.Flags _ (of_rows keys.Flags)) (λ flags.
    and_then-some _ _ (text_in-some keys.Data _ (of_rows keys.Data)) (λ body. refl)))
request_exists Dequeue (Number session ∷ Name space ∷ Name queue ∷ []) given of_kinds of_rows = mapped-some _ _ (mapped-some _ _ (flags_in-some keys.Flags _ (of_rows keys.Flags)))
request_exists _ _ given of_kinds of_rows = absurd (search rules)

-- the device of a space
pub device_number : (o : Option Value) (dev : ℕ) → IsOfRow (Some (needed keys.Dev kinds.Device)) o → Some dev ≡ number_in o → dev ≤ 7
device_number (Some (Number n)) dev is e = let same : dev ≡ n = cc in omega arith
device_number _ dev is e = absurd (cc)
