mod FitLemmas
