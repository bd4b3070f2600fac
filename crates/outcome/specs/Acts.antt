-- What the node does to the outside. Assumes nothing.
use Rattle.std.specs.Prelude.{ℕ, List}
use Rattle.sheet.specs.Contents.{Content}

-- A record of the node's file. `signed_in i s`: the node has signed s as the next of account i; `both_in i s`: both have;
-- `passed_on lock from to`; `key_is key`.
pub data Record : Type 0 where
  signed_in : ℕ → Content → Record
  both_in : ℕ → Content → Record
  passed_on : List ℕ → ℕ → ℕ → Record
  key_is : List ℕ → Record

-- `recorded`: a record is appended to the file; `synced`: the file is synced; `sent_sheet i s`: to the neighbour of
-- account i, the sheet s and the node's signature under it, as one; `sent_signature i number`: the signature alone;
-- `shown_sheet`, `shown_key`: to the register, for account i.
pub data Act : Type 0 where
  recorded : Record → Act
  synced : Act
  sent_sheet : ℕ → Content → Act
  sent_signature : ℕ → ℕ → Act
  shown_sheet : ℕ → Content → Act
  shown_key : ℕ → List ℕ → Act
