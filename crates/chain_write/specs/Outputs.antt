-- What the writer of a chain's certificate does to the open output. Own.
use Rattle.std.specs.Prelude.{ℕ, List, take}
use Rattle.offer_model.specs.Chains.{ChainData}
use Rattle.offer_io.specs.Stores.{StoreView, Extends}
use Rattle.proof_lines.specs.Writing.{IsWrittenChain}

-- The output has grown by a whole certificate of the chain, which says its stopping vectors.
abbrev pub HasWrittenChain : ChainData → StoreView → StoreView → Type 0
HasWrittenChain c old new = (text : List ℕ) × IsWrittenChain c text × Extends old text new

-- The output has grown by a part from the front of one.
abbrev pub HasWrittenChainPart : ChainData → StoreView → StoreView → Type 0
HasWrittenChainPart c old new = (text : List ℕ) × IsWrittenChain c text × ((n : ℕ) × Extends old (take n text) new)
