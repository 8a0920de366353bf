-- SPDX-License-Identifier: MIT
-- What a reader or a writer of std has shown, as a source or a sink.
use Rattle.std.specs.Prelude.{ℕ, Bool, Option}
use Rattle.po_streams.specs.declared.over_std.OverStd.{OverStd}

-- the reader or the writer itself
abbrev pub inner_of : {T : Type 0} → OverStd T → T
inner_of s = s.inner

-- whether one of its calls has failed
abbrev pub has_failed : {T : Type 0} → OverStd T → Bool
has_failed s = s.failed

-- whether one of its calls has given or taken no byte
abbrev pub was_empty : {T : Type 0} → OverStd T → Bool
was_empty s = s.empty

-- how many of its reads have given bytes, as far as it counts
abbrev pub reads_of : {T : Type 0} → OverStd T → Option ℕ
reads_of s = s.reads
